-- What a run over an empty disk in memory leaves.
use Rattle.std.proofs.Common.{◌≡◌, ◌<◌, ◌+◌, ◌++◌, ◌∙◌, ℤ, ℕ, List, [], ◌∷◌, Option, Some, codes, drop, length, pos, arith, ap, refl, subst, sym}
use Rattle.std.proofs.lemmas.List.{append-nil}
use Rattle.std.proofs.lemmas.List.Elements.{All-append, All-map, All-nil}
use Rattle.std.specs.List.{All}
use Rattle.im_digest.specs.Digests.{Hash}
use Rattle.im_disk.specs.Disk.{Told, seen}
use Rattle.im_disk.specs.Recorded.{Recorded, told_by, unchanged}
use Rattle.im_format.specs.Batches.{Counts}
use Rattle.im_format.proofs.EmptyLemmas.{none-alone}
use Rattle.im_model.specs.declared.transactions.Transaction.{Transaction}
use Rattle.im_script.specs.Script.{lines_of}
use Rattle.im_script.specs.declared.commands.Line.{Line}
use Rattle.im_report.specs.Report.{Report, floor_after}
use Rattle.im_report.specs.Sessions.{lines_in, phases_text}
use Rattle.im_report.proofs.AloneLemmas.{alone_answered}
use Rattle.im_session.specs.Served.{HasTime}
use Rattle.im_gen.specs.Generator.{linked_of, placed_of}
use Rattle.im_words.specs.declared.Link.TheVariants.{Manual}
use Rattle.im_status.specs.GeneratedLines.{generated_line, script_commands, script_lines}
use Rattle.im_status.specs.Scripts.{IsGiven}
use Rattle.im_status.proofs.LinkedLemmas.{linked-is}
use Rattle.im_app.specs.Generated.{IsReported}
use Rattle.im_app.specs.Runs.{HasOneSession, WritesReport}
use Rattle.im_app.proofs.ReportLemmas.{one-session}

-- files without octets hold no batch
none-counts : (log : List ℕ) → log ≡ [] → Counts log 0 → ⊥
none-counts log none counts =
    let c : Counts [] 0 = subst (λ (l : List ℕ). Counts l 0) none counts in
    absurd (let whole : 0 + 25 < 0 = c.whole in omega arith)

-- a disk that held no file at first, and got no call, holds none
pub empty-disk : (d : Recorded) (failing : List ℕ) → d ≡ unchanged [] failing → (file : ℕ) → seen (told_by d) file ≡ []
empty-disk d failing is file = ap (λ (r : Recorded). seen (told_by r) file) is

-- a report that was written into nothing, over empty files, is one from nothing
pub reported-of : (hash : Hash) (script octets : List ℕ) (before now : Told) (times_before times_now : Option (List ℤ)) (faults_before faults_now : ℕ) → ((file : ℕ) → seen before file ≡ [])
    → WritesReport hash (Some (pos 0)) 1 Manual (Some script) (Some before) (Some now) times_before times_now (Some []) (Some octets) faults_before faults_now → IsReported hash script octets now
reported-of hash script octets before now times_before times_now faults_before faults_now empty w =
    let r = w.report in
    let none : r.found ≡ [] = none-alone hash (seen before) r.found (none-counts (seen before 1) (empty 1)) r.found_is in
    let all : lines_in r.phases ≡ r.lines = sym (r.lines_are ∙ ap (λ (left : List (List Line)). lines_in r.phases ++ left) w.all ∙ append-nil (lines_in r.phases)) in
    let F : List Transaction → Type 0 = λ h. Report hash h r.history (lines_of (lines_in r.phases)) (phases_text r.phases) in
    let L : List (List Line) → Type 0 = λ ls. Report hash [] r.history (lines_of ls) (phases_text r.phases) in
    let O : List ℕ → Type 0 = λ o. Report hash [] r.history (lines_of r.lines) o in
    record {
      phases = r.lines;
      given = subst (λ (s : List ℕ). IsGiven s r.lines) (sym w.script_is) r.given;
      history = r.history;
      report = λ one. subst O (sym w.wrote.1)
          (subst L all (subst F none (alone_answered hash r.found r.history r.phases r.report (one-session r.lines r.phases r.unrun r.lines_are one) w.wrote.0)));
      timed = subst (λ (h : List Transaction). All (HasTime (Some (pos 0))) (drop (length h) r.history)) none r.timed;
      stands = w.here.stands;
    }

-- so it is where the source held the script, and nothing was written before
pub reported-from : (hash : Hash) (script source octets sink : List ℕ) (before now : Told) (times_before times_now : Option (List ℤ)) (faults_before faults_now : ℕ) → source ≡ script → sink ≡ []
    → ((file : ℕ) → seen before file ≡ [])
    → WritesReport hash (Some (pos 0)) 1 Manual (Some source) (Some before) (Some now) times_before times_now (Some sink) (Some octets) faults_before faults_now → IsReported hash script octets now
reported-from hash script source octets sink before now times_before times_now faults_before faults_now same none empty w =
    let S : List ℕ → Type 0 = λ s. WritesReport hash (Some (pos 0)) 1 Manual (Some s) (Some before) (Some now) times_before times_now (Some sink) (Some octets) faults_before faults_now in
    let K : List ℕ → Type 0 = λ k. WritesReport hash (Some (pos 0)) 1 Manual (Some script) (Some before) (Some now) times_before times_now (Some k) (Some octets) faults_before faults_now in
    reported-of hash script octets before now times_before times_now faults_before faults_now empty (subst K none (subst S same w))

-- the script that `gen` runs is of one session
pub one-script : (n : ℕ) → HasOneSession (script_lines n ∷ [])
one-script n = (
  codes "a",
  All-append (λ (line : Line). line.session ≡ codes "a") (script_lines n) [] (All-map (λ (line : Line). line.session ≡ codes "a") generated_line (script_commands n) (λ i d lt. refl))
      (All-nil (λ (line : Line). line.session ≡ codes "a")),
)

-- the tree behind its report
pub linked-all : (hash : Hash) (n : ℕ) (h : List Transaction) (octets : List ℕ) (r : Report hash [] h (lines_of (script_lines n ∷ [])) octets) → length h ≡ placed_of n → floor_after 0 r.answers ≡ linked_of n
linked-all hash n h octets =
    subst (λ (ls : List Line). (r : Report hash [] h ls octets) → length h ≡ placed_of n → floor_after 0 r.answers ≡ linked_of n) (sym (append-nil (script_lines n))) (linked-is hash n h octets)
