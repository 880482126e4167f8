-- What words lack, and the one number of some digits.
use Rattle.std.proofs.Common.{◌≡◌, ℕ, List, Bool, true, false, sym, ◌∙◌}
use Rattle.std.proofs.lemmas.Bool.{and_parts}
use Rattle.im_text.specs.Cuts.{Lacks}
use Rattle.im_text.specs.Words.{is_word, IsNumber}
use Rattle.im_text.proofs.CutLemmas.{Lacks-of}

-- a word lacks a mark that isn't of its kind
pub Lacks-word : (most : ℕ) (kind : ℕ → Bool) (mark : ℕ) (text : List ℕ) → kind mark ≡ false → is_word most kind text ≡ true → Lacks mark text
unfolding is_word
Lacks-word most kind mark text other h = Lacks-of kind mark text other (and_parts _ _ h).1

-- a text says one number at most
pub number-unique : (text : List ℕ) (m n : ℕ) → IsNumber text m → IsNumber text n → m ≡ n
number-unique text m n x y = sym x.1 ∙ y.1
