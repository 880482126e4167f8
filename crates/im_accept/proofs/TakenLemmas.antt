-- Each message of a report is taken.
use Rattle.std.proofs.Common.{◌≡◌, ◌≤◌, ℕ, List, true, length, take, map, refl, arith, ap, subst, ◌∙◌, sym, inl, inr, Option, Some, None, Ok, All, get_or, append_assoc}
use Rattle.std.specs.Fmt.{decimal}
use Rattle.std.specs.List.{AllByRecursion}
use Rattle.std.proofs.lemmas.Bool.{both_ways}
use Rattle.std.proofs.lemmas.List.{get_or-map, length-map, length-take-le}
use Rattle.im_octet.proofs.Common.{some-is}
use Rattle.im_digest.specs.Digests.{Hash}
use Rattle.im_model.specs.History.{header_of, IsHistory}
use Rattle.im_model.specs.declared.headers.Header.{Header as TheHeader}
use Rattle.im_model.specs.declared.transactions.Transaction.{Transaction}
use Rattle.im_model.proofs.HistoryLemmas.{IsHistory-take}
use Rattle.im_model.proofs.HeaderLemmas.{header-prefix}
use Rattle.im_mtree.specs.Checks.{first_fail}
use Rattle.im_text.specs.Fields.{IsSession}
use Rattle.im_wire.specs.Lines.{is_open, IsReply}
use Rattle.im_wire.specs.Messages.{HasMessage}
use Rattle.im_wire.specs.Texts.{text}
use Rattle.im_wire.specs.declared.messages.Message.{Message}
use Rattle.im_wire.specs.declared.messages.Message.TheVariants as says
use Rattle.im_script.specs.declared.commands.Line.{Line}
use Rattle.im_script.specs.declared.commands.Command.{Command}
use Rattle.im_script.specs.declared.commands.Command.TheVariants.{Set, Get, Scan, History, Header, State, Prove, Advance, Item, Link, Sql}
use Rattle.im_proof.specs.Between.{anchor_between, dual_between}
use Rattle.im_report.specs.Replies.{item_reply}
use Rattle.im_report.specs.Report.{Answered, IsAnswer, Report}
use Rattle.im_client.specs.Lines.{state_with}
use Rattle.im_client.specs.LineChecks.{line_checks}
use Rattle.im_facts.specs.Facts.{both_headers, entries_shown, headers_shown}
use Rattle.im_report.specs.Messages.{AreReadBack, IsReadBack, item_between}
use Rattle.im_accept.specs.Taken.{kept_number, next_number, line_text, AreAcceptedAnswers, HasStateFor, HaveSessions, IsEntryOf, IsHeaderOf, IsAcceptedAnswer}
use Rattle.im_accept.proofs.DigitLemmas.{decimal-word}
use Rattle.im_accept.proofs.FactLemmas.{anchor-shown, both-shown, entry-shown, facts-agree, facts-more, header-of-it}
use Rattle.im_accept.proofs.PassLemmas.{advance-passes, between-target, dual-passes, first-state-passes, item-passes, same-state-passes}
use Rattle.im_report.proofs.ShownLemmas.{advance-shown, get-closed, header-closed, item-shown, prove-shown, scanned-closed, set-closed, state-shown, statement-closed, versions-closed}

-- an answered line is a reply
pub line-replies : (a : Answered) → IsSession a.line.session → a.number ≤ 1048576 → IsReply (line_text a) a.reply
line-replies a name few = record {
  session = a.line.session;
  number = decimal a.number;
  is_session = name;
  is_number = decimal-word a.number few;
  text = simp append_assoc;
}

-- the header that is kept
for-some : (hash : Hash) (h : List Transaction) (c : Command) (n k : ℕ) (header : TheHeader) → kept_number c n ≡ Some k → HasStateFor hash h c n (Some header) → header ≡ header_of hash h k
for-some hash h c n k header e (j, is, same) = same ∙ ap (λ i. header_of hash h i) (some-is j k (sym is ∙ e))

-- what passes under the header that is kept passes for each client that the reply is for
passes-for : (hash : Hash) (h : List Transaction) (c : Command) (n k : ℕ) (m : Message) → (c ≡ State → ⊥) → kept_number c n ≡ Some k
    → first_fail (line_checks hash (Some (header_of hash h k)) m) ≡ Ok tt
    → (state : Option TheHeader) → HasStateFor hash h c n state → first_fail (line_checks hash state m) ≡ Ok tt
passes-for hash h c n k m other e passes None for = absurd (other for)
passes-for hash h c n k m other e passes (Some header) for =
    ap (λ (x : TheHeader). first_fail (line_checks hash (Some x) m)) (for-some hash h c n k header e for) ∙ passes

-- so does what is kept behind it
keeps-for : (hash : Hash) (h : List Transaction) (c : Command) (n k : ℕ) (m : Message) (next : TheHeader) → (c ≡ State → ⊥) → kept_number c n ≡ Some k
    → state_with (Some (header_of hash h k)) m ≡ Some next
    → (state : Option TheHeader) → HasStateFor hash h c n state → state_with state m ≡ Some next
keeps-for hash h c n k m next other e keeps None for = absurd (other for)
keeps-for hash h c n k m next other e keeps (Some header) for =
    ap (λ (x : TheHeader). state_with (Some x) m) (for-some hash h c n k header e for) ∙ keeps

-- a reply to all but a state
other-taken : (hash : Hash) (h : List Transaction) (a : Answered) (k : ℕ) (m : Message)
    → IsReply (line_text a) a.reply → is_open a.reply ≡ true → HasMessage a.reply m → a.reply ≡ text m
    → (a.line.command ≡ State → ⊥) → kept_number a.line.command a.number ≡ Some k
    → 1 ≤ k → k ≤ next_number a.line.command k → next_number a.line.command k ≤ a.number
    → first_fail (line_checks hash (Some (header_of hash h k)) m) ≡ Ok tt
    → state_with (Some (header_of hash h k)) m ≡ Some (header_of hash h (next_number a.line.command k))
    → AllByRecursion (IsHeaderOf hash h) (headers_shown m) → AllByRecursion (IsEntryOf h) (entries_shown m) → IsAcceptedAnswer hash h a
other-taken hash h a k m replies is_now has told other e some rises within passes keeps headers entries = record {
  kept = k;
  is_kept = e;
  some = some;
  rises = rises;
  within = within;
  message = m;
  told = told;
  accepted = λ known for. (
    (a.reply, inl (replies, is_now), has),
    record {
      passes = passes-for hash h a.line.command a.number k m other e passes known.state for.state;
      agrees = facts-agree hash h known m for.facts headers entries;
    },
  );
  behind = λ known for. (
    keeps-for hash h a.line.command a.number k m (header_of hash h (next_number a.line.command k)) other e keeps known.state for.state,
    facts-more hash h known m for.facts headers entries,
  );
}

-- a state passes where none is kept, and where its header is
state-passes-for : (hash : Hash) (h hs : List Transaction) (n k : ℕ) → IsHistory hs → 1 ≤ k → k ≤ length hs → header_of hash hs k ≡ header_of hash h n
    → (state : Option TheHeader) → HasStateFor hash h State n state → first_fail (line_checks hash state (says.State (header_of hash hs k))) ≡ Ok tt
state-passes-for hash h hs n k history some within same None for = first-state-passes hash hs k history some within
state-passes-for hash h hs n k history some within same (Some header) for =
    let is : header ≡ header_of hash hs k = for-some hash h State n n header refl for ∙ sym same in
    ap (λ (x : TheHeader). first_fail (line_checks hash (Some x) (says.State (header_of hash hs k)))) is ∙ same-state-passes hash hs k history some within

-- and its header is kept behind it
state-keeps-for : (hash : Hash) (h : List Transaction) (n : ℕ) (header : TheHeader) → header ≡ header_of hash h n
    → (state : Option TheHeader) → HasStateFor hash h State n state → state_with state (says.State header) ≡ Some (header_of hash h n)
state-keeps-for hash h n header same None for = ap Some same
state-keeps-for hash h n header same (Some kept) for = ap Some (for-some hash h State n n kept refl for)

-- the answered line of its parts
abbrev answered : List ℕ → Command → ℕ → List ℕ → Answered
answered session command n reply = record { line = record { session = session; command = command }; number = n; reply = reply }

-- an item under state s
item-taken : (hash : Hash) (h : List Transaction) (session : List ℕ) (c : Command) (n : ℕ) (reply : List ℕ) (t i s : ℕ) → IsHistory h → n ≤ length h
    → IsReply (line_text (answered session c n reply)) reply → (c ≡ State → ⊥) → kept_number c n ≡ Some s → next_number c s ≡ s
    → reply ≡ item_reply hash (take n h) t i s → is_open reply ≡ true → HasMessage reply (item_between hash (take n h) t i s) → IsAcceptedAnswer hash h (answered session c n reply)
item-taken hash h session c n reply t i s history within replies other kept next answer is_now has =
    let hs : List Transaction = take n h in
    let size : length hs ≡ n = length-take-le n h within in
    let shown = item-shown hash hs t i s reply answer is_now in
    let some : 1 ≤ t = shown.0 in
    let order : t ≤ s = shown.1 in
    let below : s ≤ length hs = shown.2 in
    let same : header_of hash hs s ≡ header_of hash h s = header-prefix hash h s n (omega arith) (omega arith) within in
    other-taken hash h (answered session c n reply) s (item_between hash hs t i s) replies is_now has shown.4 other kept (omega arith) (omega arith) (omega arith)
    (ap (λ (x : TheHeader). first_fail (line_checks hash (Some x) (item_between hash hs t i s))) (sym same) ∙ item-passes hash hs t i s (IsHistory-take h n history) some order below shown.3)
    (ap (λ k. Some (header_of hash h k)) (sym next))
    (both-shown hash h n t s some order (omega arith) within) (entry-shown hash h n t i s some (omega arith) within shown.3)

-- each line whose reply is open, by its command
taken-by : (hash : Hash) (h : List Transaction) (session : List ℕ) (c : Command) (n : ℕ) (reply : List ℕ) → IsHistory h → n ≤ length h
    → IsReply (line_text (answered session c n reply)) reply → IsAnswer hash h c n reply → IsReadBack hash (take n h) c reply → is_open reply ≡ true
    → IsAcceptedAnswer hash h (answered session c n reply)
taken-by hash h session (Set pres drafts) n reply history within replies answer read is_now = absurd (both_ways (is_open reply) (set-closed h pres drafts n reply answer) is_now)
taken-by hash h session (Get key at) n reply history within replies answer read is_now = absurd (both_ways (is_open reply) (get-closed (take n h) key at reply answer) is_now)
taken-by hash h session (Scan prefix at) n reply history within replies answer read is_now = absurd (both_ways (is_open reply) (scanned-closed (take n h) prefix at reply answer) is_now)
taken-by hash h session (History key) n reply history within replies answer read is_now = absurd (both_ways (is_open reply) (versions-closed (take n h) key reply answer) is_now)
taken-by hash h session (Header k) n reply history within replies answer read is_now =
    absurd (both_ways (is_open reply) (ap is_open answer ∙ header-closed hash (take n h) k) is_now)
taken-by hash h session State n reply history within replies answer read is_now =
    let hs : List Transaction = take n h in
    let size : length hs ≡ n = length-take-le n h within in
    let shown = state-shown hash hs reply answer is_now in
    let some : 1 ≤ length hs = shown.0 in
    let same : header_of hash hs (length hs) ≡ header_of hash h n =
    ap (λ k. header_of hash hs k) size ∙ header-prefix hash h n n (omega arith) (omega arith) within in
    let state : Message = says.State (header_of hash hs (length hs)) in
    let headers : AllByRecursion (IsHeaderOf hash h) (headers_shown state) = (header-of-it hash h n (header_of hash hs (length hs)) (omega arith) within same, tt) in
    record {
      kept = n;
      is_kept = refl;
      some = omega arith;
      rises = omega arith;
      within = omega arith;
      message = state;
      told = shown.1;
      accepted = λ known for. (
        (reply, inl (replies, is_now), read is_now),
        record {
          passes = state-passes-for hash h hs n (length hs) (IsHistory-take h n history) some (omega arith) same known.state for.state;
          agrees = facts-agree hash h known state for.facts headers tt;
        },
      );
      behind = λ known for. (
        state-keeps-for hash h n (header_of hash hs (length hs)) same known.state for.state,
        facts-more hash h known state for.facts headers tt,
      );
    }
taken-by hash h session (Prove s t) n reply history within replies answer read is_now =
    let hs : List Transaction = take n h in
    let size : length hs ≡ n = length-take-le n h within in
    let shown = prove-shown hash hs s t reply answer is_now in
    let some : 1 ≤ s = shown.0 in
    let order : s ≤ t = shown.1 in
    let below : t ≤ length hs = shown.2 in
    let m : Message = says.Dual (dual_between hash hs s t) in
    let same : header_of hash hs t ≡ header_of hash h t = header-prefix hash h t n (omega arith) (omega arith) within in
    other-taken hash h (answered session (Prove s t) n reply) t m replies is_now (read is_now) shown.3 (λ e. cc) refl (omega arith) (omega arith) (omega arith)
    (ap (λ (x : TheHeader). first_fail (line_checks hash (Some x) m)) (sym same) ∙ dual-passes hash hs s t (IsHistory-take h n history) some order below)
    refl (both-shown hash h n s t some order (omega arith) within) tt
taken-by hash h session (Advance s t) n reply history within replies answer read is_now =
    let hs : List Transaction = take n h in
    let size : length hs ≡ n = length-take-le n h within in
    let shown = advance-shown hash hs s t reply answer is_now in
    let some : 1 ≤ s = shown.0 in
    let order : s ≤ t = shown.1 in
    let below : t ≤ length hs = shown.2 in
    let m : Message = says.Advance (dual_between hash hs s t) (anchor_between hash hs s t) in
    let same : header_of hash hs s ≡ header_of hash h s = header-prefix hash h s n some (omega arith) within in
    let next : header_of hash hs t ≡ header_of hash h t = header-prefix hash h t n (omega arith) (omega arith) within in
    let both : AllByRecursion (IsHeaderOf hash h) (both_headers (dual_between hash hs s t)) = both-shown hash h n s t some order (omega arith) within in
    other-taken hash h (answered session (Advance s t) n reply) s m replies is_now (read is_now) shown.3 (λ e. cc) refl some order (omega arith)
    (ap (λ (x : TheHeader). first_fail (line_checks hash (Some x) m)) (sym same) ∙ advance-passes hash hs s t (IsHistory-take h n history) some order below)
    (ap Some (between-target hash hs s t ∙ next))
    (both.0, (both.1.0, anchor-shown hash h n s t some order (omega arith) within))
    tt
taken-by hash h session (Item t i None) n reply history within replies answer read is_now =
    let hs : List Transaction = take n h in
    let size : length hs ≡ n = length-take-le n h within in
    item-taken hash h session (Item t i None) n reply t i n history within replies (λ e. cc) refl refl answer is_now
    (subst (λ k. HasMessage reply (item_between hash hs t i k)) size (read is_now))
taken-by hash h session (Item t i (Some s)) n reply history within replies answer read is_now =
    item-taken hash h session (Item t i (Some s)) n reply t i s history within replies (λ e. cc) refl refl answer is_now (read is_now)
taken-by hash h session (Link count) n reply history within replies answer read is_now =
    absurd (both_ways (is_open reply) (ap is_open answer) is_now)
taken-by hash h session (Sql sql) n reply history within replies answer read is_now =
    absurd (both_ways (is_open reply) (statement-closed h sql n reply answer) is_now)

-- the sessions of answered lines
pub sessions-are : (answers : List Answered) → HaveSessions (map (λ a. a.line) answers) → All (λ a. IsSession a.line.session) answers
sessions-are answers names k d within =
    let count : length (map (λ (a : Answered). a.line) answers) ≡ length answers = length-map answers (λ (a : Answered). a.line) in
    subst (λ (line : Line). IsSession line.session) (get_or-map (λ (a : Answered). a.line) answers k d d.line within) (names k d.line (omega arith))

-- each of some answers
pub answers-taken : (hash : Hash) (h : List Transaction) (answers : List Answered) → IsHistory h → All (λ a. IsAnswer hash h a.line.command a.number a.reply) answers → All (λ a. a.number ≤ length h) answers
    → All (λ a. IsSession a.line.session) answers → AreReadBack hash h answers → AreAcceptedAnswers hash h answers
answers-taken hash h answers history each within named read =
    λ k d lt.
    let a : Answered = get_or answers k d in
    let few : length h ≤ 1048576 = history.few in
    let there : a.number ≤ length h = within k d lt in
    let replies : IsReply (line_text a) a.reply = line-replies a (named k d lt) (omega arith) in
    (taken-by hash h a.line.session a.line.command a.number a.reply history there replies (each k d lt) (read k d lt), λ closed. inr (a.reply, replies, closed))

-- each of a report
pub report-taken : (hash : Hash) (h0 h : List Transaction) (lines : List Line) (octets : List ℕ) (report : Report hash h0 h lines octets)
    → HaveSessions lines → AreReadBack hash h report.answers → AreAcceptedAnswers hash h report.answers
report-taken hash h0 h lines octets report names read =
    answers-taken hash h report.answers report.history report.each (λ k d within. (report.within k d within).1)
    (sessions-are report.answers (subst (λ (ls : List Line). HaveSessions ls) (sym report.lines_are) names)) read
