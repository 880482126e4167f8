-- What replies to statements tell: whether something was placed, and behind how many transactions it was judged.
use Rattle.std.proofs.Common.{◌≡◌, inl, inr, ℕ, ◌^◌, ◌<◌, ◌≤◌, ◌==◌, List, ◌∷◌, ◌++◌, false, codes, refl, ap, sym, ◌∙◌, arith, Result, append_assoc}
use Rattle.std.specs.Fmt.{decimal}
use Rattle.im_text.proofs.CutLemmas.{heads-differ}
use Rattle.im_sqlparse.specs.declared.errors.SqlSyntax.{SqlSyntax}
use Rattle.im_sqlmodel.specs.declared.answers.SqlError.{SqlError}
use Rattle.im_sqlmodel.specs.declared.answers.SqlOut.{SqlOut}
use Rattle.im_sqlreply.proofs.DigitLemmas.{decimal-lacks, decimal-one, last-cut}
use Rattle.im_sqlreply.proofs.TextLemmas.{Begins, syntax-begins}
use Rattle.im_sqlreply.proofs.ToldLemmas.{told-begins}
use Rattle.im_sqlreply.specs.Replies.{syntax_reply}
use Rattle.im_sqlreply.specs.Shown.{IsShown}
use Rattle.im_versions.specs.declared.refusals.PlaceError.{PlaceError}
use Rattle.im_versions.specs.declared.refusals.PlaceError.TheVariants.{Memory, Full, Missing, Exists, Modified}
use Rattle.im_script.specs.declared.commands.Command.TheVariants.{Sql}
use Rattle.im_report.proofs.PlacedLemmas.{other-letter}
use Rattle.im_report.specs.Reads.{bare_or_hex}
use Rattle.im_report.specs.Replies.{full_reply, tx_reply}
use Rattle.im_report.specs.Report.{tells_tx, ReadsBy}
use Rattle.im_report.specs.Statements.{conflict_reply, full_read_reply, tx_read_reply, IsReadTold, IsUnplacedReply}

-- ---- which say that something was placed

begun-not-placed : (reply : List ℕ) (n : ℕ) → Begins reply → tells_tx reply n ≡ false
begun-not-placed reply n (rest, inl e) = other-letter 114 rest reply n refl e
begun-not-placed reply n (rest, inr (inl e)) = other-letter 110 rest reply n refl e
begun-not-placed reply n (rest, inr (inr e)) = other-letter 101 rest reply n refl e

pub told-not-placed : (answer : Result SqlOut SqlError) (reply : List ℕ) (n : ℕ) → IsShown answer reply → tells_tx reply n ≡ false
told-not-placed answer reply n told = begun-not-placed reply n (told-begins answer reply told)

pub fault-not-placed : (fault : SqlSyntax) (n : ℕ) → tells_tx (syntax_reply fault) n ≡ false
fault-not-placed fault n = let begins = syntax-begins fault in other-letter 101 begins.0 (syntax_reply fault) n refl begins.1

-- nor does why something wasn't placed
pub conflict-not-placed : (key : List ℕ) (tx read n : ℕ) → tells_tx (conflict_reply key tx read) n ≡ false
unfolding conflict_reply
conflict-not-placed key tx read n = other-letter 99 _ (conflict_reply key tx read) n refl refl

pub full-read-not-placed : (read n : ℕ) → tells_tx (full_read_reply read) n ≡ false
unfolding full_read_reply
full-read-not-placed read n = other-letter 102 _ (full_read_reply read) n refl refl

pub unplaced-not-placed : (why : PlaceError) (read : ℕ) (reply : List ℕ) (n : ℕ) → IsUnplacedReply why read reply → tells_tx reply n ≡ false
unplaced-not-placed Memory read reply n told = absurd told
unplaced-not-placed Full read reply n told = ap (λ (r : List ℕ). tells_tx r n) told ∙ full-read-not-placed read n
unplaced-not-placed (Missing key) read reply n told = absurd told
unplaced-not-placed (Exists key tx) read reply n told = absurd told
unplaced-not-placed (Modified key tx) read reply n told = ap (λ (r : List ℕ). tells_tx r n) told ∙ conflict-not-placed key tx read n

-- ---- behind how many transactions it was judged

-- the number stands behind the last blank
read-ends : (a d : List ℕ) → (a ++ codes " read ") ++ d ≡ (a ++ codes " read") ++ 32 ∷ d
read-ends a d = append_assoc a (codes " read ") d ∙ sym (append_assoc a (codes " read") (32 ∷ d))

ends-read : (reply : List ℕ) (n read : ℕ) → IsReadTold reply n read → (front : List ℕ) × (reply ≡ front ++ 32 ∷ decimal read)
unfolding tx_read_reply conflict_reply full_read_reply
ends-read reply n read (inl e) = (tx_reply n ++ codes " read", e ∙ read-ends (tx_reply n) (decimal read))
ends-read reply n read (inr (inl (key, tx, e))) =
    let front : List ℕ = codes "conflict " ++ bare_or_hex key ++ codes " tx " ++ decimal tx in
    (front ++ codes " read", e ∙ read-ends front (decimal read))
ends-read reply n read (inr (inr e)) = (full_reply ++ codes " read", e ∙ read-ends full_reply (decimal read))

-- a reply tells one number that was read, where it is one of 64 bits
pub read-one : (reply : List ℕ) (n a b : ℕ) → a < 2 ^ 64 → IsReadTold reply n a → IsReadTold reply n b → a ≡ b
read-one reply n a b few x y =
    let p = ends-read reply n a x in
    let q = ends-read reply n b y in
    decimal-one a b few (last-cut 32 p.0 q.0 (decimal a) (decimal b) (decimal-lacks 32 a refl) (decimal-lacks 32 b refl) (sym p.1 ∙ q.1))

-- so it is no less than what that one is
pub reads-of : (low : ℕ) (text : List ℕ) (n : ℕ) (reply : List ℕ) (read : ℕ) → read < 2 ^ 64 → low ≤ read → IsReadTold reply n read → ReadsBy low (Sql text) n reply
reads-of low text n reply read few le told = λ other is. (let same : read ≡ other = read-one reply n read other few told is in omega (arith, same, le))

-- what asks for nothing to be placed tells none
begun-apart : (reply : List ℕ) (o : ℕ) (rest : List ℕ) → (114 == o) ≡ false → (110 == o) ≡ false → (101 == o) ≡ false → Begins reply → reply ≡ o ∷ rest → ⊥
begun-apart reply o rest r n e (more, inl is) begins = heads-differ 114 o more rest r (sym is ∙ begins)
begun-apart reply o rest r n e (more, inr (inl is)) begins = heads-differ 110 o more rest n (sym is ∙ begins)
begun-apart reply o rest r n e (more, inr (inr is)) begins = heads-differ 101 o more rest e (sym is ∙ begins)

begun-reads-none : (reply : List ℕ) (n read : ℕ) → Begins reply → IsReadTold reply n read → ⊥
unfolding tx_reply tx_read_reply conflict_reply full_read_reply
begun-reads-none reply n read begun (inl e) = begun-apart reply 116 _ refl refl refl begun e
begun-reads-none reply n read begun (inr (inl (key, tx, e))) = begun-apart reply 99 _ refl refl refl begun e
begun-reads-none reply n read begun (inr (inr e)) = begun-apart reply 102 _ refl refl refl begun e

pub told-reads : (low : ℕ) (text : List ℕ) (n : ℕ) (answer : Result SqlOut SqlError) (reply : List ℕ) → IsShown answer reply → ReadsBy low (Sql text) n reply
told-reads low text n answer reply told = λ read is. absurd (begun-reads-none reply n read (told-begins answer reply told) is)

pub fault-reads : (low : ℕ) (text : List ℕ) (n : ℕ) (fault : SqlSyntax) → ReadsBy low (Sql text) n (syntax_reply fault)
fault-reads low text n fault = λ read is. absurd (begun-reads-none (syntax_reply fault) n read ((syntax-begins fault).0, inr (inr (syntax-begins fault).1)) is)
