-- A report is cut at each LF into its answered lines, and so these are one list.
use Rattle.std.proofs.Common.{◌≡◌, ◌≤◌, ℕ, zero, suc, List, [], ◌∷◌, ◌++◌, length, map, refl, arith, ap, ◌∙◌, sym, subst, inl, inr, All, get_or, codes, append_assoc}
use Rattle.std.specs.Fmt.{decimal}
use Rattle.std.specs.List.{flat_map}
use Rattle.std.proofs.lemmas.Fmt.{decimal_injective}
use Rattle.im_text.specs.Cuts.{Lacks}
use Rattle.im_text.specs.Lines.{AreTexts}
use Rattle.im_text.proofs.CutLemmas.{append-same, cut-unique, head-is, Lacks-append}
use Rattle.im_text.proofs.LineLemmas.{texts-unique}
use Rattle.im_text.proofs.WordLemmas.{Lacks-word}
use Rattle.im_digest.specs.Digests.{Hash}
use Rattle.im_model.specs.declared.transactions.Transaction.{Transaction}
use Rattle.im_text.specs.Fields.{is_session_octet, IsSession}
use Rattle.im_script.specs.Script.{IsScript, Say, lines_of, with_name}
use Rattle.im_script.specs.declared.commands.Line.{Line}
use Rattle.im_report.specs.Report.{Answered, Report, reply_line, answer_line}
use Rattle.im_accept.specs.Taken.{line_text, HaveSessions}
use Rattle.im_sqlreply.proofs.DigitLemmas.{decimal-lacks, digits-lack}
use Rattle.im_accept.proofs.TakenLemmas.{sessions-are}
use Rattle.im_octet.proofs.Common.{heads-are, tails-are}
pub use Rattle.im_accept.proofs.ReplyLemmas.{answer-lacks}

-- an answered line has no LF, as its reply has none
pub line-lacks : (a : Answered) → IsSession a.line.session → Lacks 10 a.reply → Lacks 10 (line_text a)
line-lacks a name h =
    let session : List ℕ = a.line.session in
    let number : List ℕ = decimal a.number in
    Lacks-append 10 (session ++ codes " " ++ number ++ codes " ") a.reply
    (Lacks-append 10 (session ++ codes " " ++ number) (codes " ")
    (Lacks-append 10 (session ++ codes " ") number
    (Lacks-append 10 session (codes " ") (Lacks-word 16 is_session_octet 10 session refl name) refl) (digits-lack a.number)) refl) h

-- a line as it is written
written-is : (a : Answered) (more : List ℕ) → answer_line a ++ more ≡ line_text a ++ 10 ∷ more
unfolding reply_line
written-is a more = append_assoc (line_text a) (10 ∷ []) more

-- written lines are cut into their texts
pub texts-of : (answers : List Answered) → All (λ a. Lacks 10 (line_text a)) answers → AreTexts (flat_map answer_line answers) (map line_text answers)
texts-of [] each = refl
texts-of (a ∷ answers) each =
    (each 0 a (omega arith), inr (flat_map answer_line answers, written-is a (flat_map answer_line answers), texts-of answers (λ k d within. each (suc k) d (omega arith))))

-- so is a report
pub report-texts : (hash : Hash) (h0 h : List Transaction) (lines : List Line) (octets : List ℕ) (report : Report hash h0 h lines octets)
    → HaveSessions lines → AreTexts octets (map line_text report.answers)
report-texts hash h0 h lines octets report names =
    let named : All (λ a. IsSession a.line.session) report.answers = sessions-are report.answers (subst (λ (ls : List Line). HaveSessions ls) (sym report.lines_are) names) in
    subst (λ (o : List ℕ). AreTexts o (map line_text report.answers)) (sym report.octets_are)
    (texts-of report.answers (λ k d within.
    let a : Answered = get_or report.answers k d in
    line-lacks a (named k d within) (answer-lacks hash h a.line.command a.number a.reply (report.each k d within))))

-- a line's parts behind its session
line-is : (a : Answered) → line_text a ≡ a.line.session ++ 32 ∷ (decimal a.number ++ 32 ∷ a.reply)
line-is a = simp append_assoc

-- one line is read in one way
answer-same : (x y : Answered) → x.line ≡ y.line → x.number ≤ 1048576 → y.number ≤ 1048576 → line_text x ≡ line_text y → x ≡ y
answer-same x y line few_x few_y e =
    let behind : Answered → List ℕ = λ a. decimal a.number ++ 32 ∷ a.reply in
    let whole : x.line.session ++ 32 ∷ behind x ≡ x.line.session ++ 32 ∷ behind y =
    sym (line-is x) ∙ e ∙ line-is y ∙ ap (λ (l : Line). l.session ++ 32 ∷ behind y) (sym line) in
    let rest = append-same x.line.session (32 ∷ behind x) (32 ∷ behind y) whole in
    let parts = cut-unique 32 (decimal x.number) (decimal y.number) x.reply y.reply (decimal-lacks 32 x.number refl) (decimal-lacks 32 y.number refl) (head-is 32 32 (behind x) (behind y) rest).1 in
    let number : x.number ≡ y.number = decimal_injective x.number y.number (omega arith) (omega arith) parts.0 in
    let a : Line → Answered = λ l. record { line = l; number = x.number; reply = x.reply } in
    let b : ℕ → Answered = λ n. record { line = y.line; number = n; reply = x.reply } in
    let c : List ℕ → Answered = λ r. record { line = y.line; number = y.number; reply = r } in
    ap a line ∙ ap b number ∙ ap c parts.1

pub answers-same : (xs ys : List Answered) → map (λ a. a.line) xs ≡ map (λ a. a.line) ys → map line_text xs ≡ map line_text ys
    → All (λ a. a.number ≤ 1048576) xs → All (λ a. a.number ≤ 1048576) ys → xs ≡ ys
answers-same [] [] lines texts few_x few_y = refl
answers-same [] (y ∷ ys) lines texts few_x few_y = absurd cc
answers-same (x ∷ xs) [] lines texts few_x few_y = absurd cc
answers-same (x ∷ xs) (y ∷ ys) lines texts few_x few_y =
    let first : x ≡ y = answer-same x y (heads-are x.line y.line _ _ lines) (few_x 0 x (omega arith)) (few_y 0 y (omega arith)) (heads-are (line_text x) (line_text y) _ _ texts) in
    let others : xs ≡ ys = answers-same xs ys (tails-are x.line y.line _ _ lines) (tails-are (line_text x) (line_text y) _ _ texts)
    (λ k d within. few_x (suc k) d (omega arith)) (λ k d within. few_y (suc k) d (omega arith)) in
    ap (λ (a : Answered). a ∷ xs) first ∙ ap (λ (rest : List Answered). y ∷ rest) others

pub few-answers : (hash : Hash) (h0 h : List Transaction) (lines : List Line) (octets : List ℕ) (report : Report hash h0 h lines octets) → All (λ a. a.number ≤ 1048576) report.answers
few-answers hash h0 h lines octets report k d within =
    let few : length h ≤ 1048576 = report.history.few in
    let there : (get_or report.answers k d).number ≤ length h = (report.within k d within).1 in
    omega arith

-- these lines, numbers and replies are those of a report of the same lines and octets
pub one-answers : (hash : Hash) (h0 h : List Transaction) (lines : List Line) (octets : List ℕ) (report : Report hash h0 h lines octets) (answers : List Answered)
    → HaveSessions lines → map (λ a. a.line) answers ≡ lines → AreTexts octets (map line_text answers) → All (λ a. a.number ≤ 1048576) answers → answers ≡ report.answers
one-answers hash h0 h lines octets report answers names are texts few =
    answers-same answers report.answers (are ∙ sym report.lines_are)
    (texts-unique octets (map line_text answers) (map line_text report.answers) texts (report-texts hash h0 h lines octets report names))
    few (few-answers hash h0 h lines octets report)

pub one-report : (hash : Hash) (h0 h : List Transaction) (lines : List Line) (octets : List ℕ) (a b : Report hash h0 h lines octets) → HaveSessions lines → a.answers ≡ b.answers
one-report hash h0 h lines octets a b names =
    one-answers hash h0 h lines octets b a.answers names a.lines_are (report-texts hash h0 h lines octets a names) (few-answers hash h0 h lines octets a)

-- one line more
all-more : (line : Line) (lines : List Line) → IsSession line.session → HaveSessions lines → HaveSessions (line ∷ lines)
all-more line lines name names zero d within = name
all-more line lines name names (suc k) d within = names k d (omega arith)

-- what texts say has sessions
say-sessions : (names : List (List ℕ)) (texts : List (List ℕ)) (lines : List Line) (more : List (List Line)) → Say names texts lines more → HaveSessions (lines ++ lines_of more)
say-sessions names [] lines more h =
    subst (λ (ls : List Line). HaveSessions (ls ++ lines_of more)) (sym h.0) (subst (λ (m : List (List Line)). HaveSessions (lines_of m)) (sym h.1) (λ k d within. absurd (omega arith)))
say-sessions names (t ∷ texts) lines more (inl h) = say-sessions names texts lines more h.1
say-sessions names (t ∷ texts) lines more (inr (inl (ends, none, (next, others, e, says)))) =
    subst (λ (ls : List Line). HaveSessions (ls ++ lines_of more)) (sym none) (subst (λ (m : List (List Line)). HaveSessions (lines_of m)) (sym e) (say-sessions names texts next others says))
say-sessions names (t ∷ texts) lines more (inr (inr (line, rest, e, is, may, says))) =
    subst (λ (ls : List Line). HaveSessions (ls ++ lines_of more)) (sym e) (all-more line (rest ++ lines_of more) is.2 (say-sessions (with_name names line.session) texts rest more says))

pub script-sessions : (octets : List ℕ) (script : List (List Line)) → IsScript octets script → HaveSessions (lines_of script)
script-sessions octets script (texts, are, (first, more, e, says)) =
    subst (λ (s : List (List Line)). HaveSessions (lines_of s)) (sym e) (say-sessions [] texts first more says)
