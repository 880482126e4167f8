-- However a run ended, the lines that its keeper then holds are taken.
use Rattle.std.proofs.Common.{◌≡◌, ℕ, List, [], ◌∷◌, ◌++◌, take, Option, Some, None, IfSome, refl, sym, ap, subst, ◌∙◌}
use Rattle.std.specs.Option.{option_map}
use Rattle.std.proofs.lemmas.List.Elements.{All-push}
use Rattle.im_digest.specs.Digests.{Hash}
use Rattle.im_facts.specs.Verdicts.{Verdict, Passed, Accepted, Refused, Forked, IsForked}
use Rattle.im_verify.specs.Judged.{kept_texts, up_to_fork, AreJudged, AreTaken, NoneForked}
use Rattle.im_verify.specs.Runs.{BreaksAt, BreaksInto, BreaksOff, Verifies}
use Rattle.im_verify.specs.declared.ended.Ended.{Ended}
use Rattle.im_verify.proofs.AgainLemmas.{kept-again}
use Rattle.im_verify.proofs.ForkLemmas.{up-forked, up-none}
use Rattle.im_verify.proofs.RunLemmas.{at-off}

-- a keeper holds lines that are all taken, where it tells them
abbrev pub HoldsTaken : Hash → Option (List (List ℕ)) → Type 0
HoldsTaken hash now = IfSome now (λ (lines : List (List ℕ)). (again : List Verdict) × AreTaken hash lines again)

-- it held some, and then those of what was told behind them
left-taken : (hash : Hash) (held now : Option (List (List ℕ))) (kept texts : List (List ℕ)) (verdicts told : List Verdict) → AreJudged hash kept texts verdicts → up_to_fork verdicts ≡ told
    → IfSome held (λ lines. lines ≡ kept) → now ≡ option_map (λ (lines : List (List ℕ)). lines ++ kept_texts told) held → HoldsTaken hash now
left-taken hash None now kept texts verdicts told judged up is keeps = subst (HoldsTaken hash) (sym keeps) tt
left-taken hash (Some lines) now kept texts verdicts told judged up is keeps =
    let t = kept-again hash kept texts verdicts judged in
    let front : kept ++ kept_texts (up_to_fork verdicts) ≡ lines ++ kept_texts (up_to_fork verdicts) = ap (λ (ls : List (List ℕ)). ls ++ kept_texts (up_to_fork verdicts)) (sym is) in
    let same : kept ++ kept_texts (up_to_fork verdicts) ≡ lines ++ kept_texts told = front ∙ ap (λ (vs : List Verdict). lines ++ kept_texts vs) up in
    subst (HoldsTaken hash) (sym keeps) (t.0, subst (λ (ls : List (List ℕ)). AreTaken hash ls t.0) same t.1)

-- behind verdicts of which none is a fork any one may stand
up-last : (vs : List Verdict) (v : Verdict) → NoneForked vs → up_to_fork (vs ++ v ∷ []) ≡ vs ++ v ∷ []
up-last vs Passed none = up-none (vs ++ Passed ∷ []) (All-push (λ (w : Verdict). IsForked w → ⊥) vs Passed none (λ f. f))
up-last vs (Accepted m) none = up-none (vs ++ Accepted m ∷ []) (All-push (λ (w : Verdict). IsForked w → ⊥) vs (Accepted m) none (λ f. f))
up-last vs (Refused fault) none = up-none (vs ++ Refused fault ∷ []) (All-push (λ (w : Verdict). IsForked w → ⊥) vs (Refused fault) none (λ f. f))
up-last vs (Forked x y) none = up-forked vs [] (Forked x y) none tt

-- a run that is done
pub done-left : (hash : Hash) (ended : Ended) (source before after : Option (List ℕ)) (held now : Option (List (List ℕ))) → Verifies hash ended source before after held now → HoldsTaken hash now
done-left hash ended source before after held now v =
    left-taken hash held now v.kept v.verified.texts v.verdicts (up_to_fork v.verdicts) v.verified.judged refl v.kept_is v.keeps

-- one that broke off in what tells a line
pub into-left : (hash : Hash) (source before after : Option (List ℕ)) (held now : Option (List (List ℕ))) → BreaksInto hash source before after held now → HoldsTaken hash now
into-left hash source before after held now b =
    let told : List Verdict = b.verdicts ++ b.last ∷ [] in
    left-taken hash held now b.kept (take b.count b.texts) told told b.judged (up-last b.verdicts b.last b.none) b.kept_is b.keeps

-- behind the first lines
pub off-left : (hash : Hash) (source before after : Option (List ℕ)) (held now : Option (List (List ℕ))) → BreaksOff hash source before after held now → HoldsTaken hash now
off-left hash source before after held now b =
    left-taken hash held now b.kept (take b.count b.texts) b.verdicts b.verdicts b.judged (up-none b.verdicts b.none) b.kept_is b.keeps

-- or before a line that is accepted
pub at-left : (hash : Hash) (source before after : Option (List ℕ)) (held now : Option (List (List ℕ))) → BreaksAt hash source before after held now → HoldsTaken hash now
at-left hash source before after held now b = off-left hash source before after held now (at-off hash source before after held now b)
