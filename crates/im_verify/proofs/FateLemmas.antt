-- What the source and the keeper hold decides how a run ends.
use Rattle.std.proofs.Common.{◌≡◌, ◌⊎◌, ◌+◌, ◌<◌, ◌≤◌, ℕ, zero, suc, List, [], ◌∷◌, length, take, get_or, Option, Some, None, IfSome, refl, sym, ap, subst, ◌∙◌, arith, inl, inr}
use Rattle.std.proofs.lemmas.List.{get_or-take, length-take-le}
use Rattle.std.proofs.lemmas.Bool.{cases_lt}
use Rattle.im_digest.specs.Digests.{Hash}
use Rattle.im_text.proofs.LineLemmas.{texts-unique}
use Rattle.im_facts.specs.Facts.{Known, nothing}
use Rattle.im_facts.specs.Folds.{AreVerdicts, IsVerdict, known_by, known_by_all}
use Rattle.im_facts.specs.Verdicts.{Verdict, Passed, IsForked, AreSameVerdicts}
use Rattle.im_facts.proofs.VerdictLemmas.{all-same-known, verdict-one, verdicts-one}
use Rattle.im_verify.specs.Ends.{HasFate}
use Rattle.im_verify.specs.Judged.{AreTaken, IsRefused, IsRejected, IsVerified, NoneForked, NoneRefused, SomeForked, SomeRefused, StopsHeld, StopsKept}
use Rattle.im_verify.specs.Runs.{Verifies}
use Rattle.im_verify.specs.declared.ended.Ended.{Ended}
use Rattle.im_verify.specs.declared.ended.Ended.TheVariants as the
use Rattle.im_verify.proofs.FoldLemmas.{fold-length, fold-take, take-take}
use Rattle.im_verify.proofs.ForkLemmas.{none-and-some, none-forked-same, none-refused-same, rejected-back}
use Rattle.im_verify.proofs.RunLemmas.{told}

fold-at : (hash : Hash) (known : Known) (lines : List (List ℕ)) (os : List Verdict) (n : ℕ) → n < length lines → AreVerdicts hash known lines os
    → IsVerdict hash (known_by_all known (take n os)) (get_or lines n []) (get_or os n Passed)
fold-at hash known [] os n within f = absurd (omega arith)
fold-at hash known (l ∷ lines) [] n within f = absurd f
fold-at hash known (l ∷ lines) (o ∷ os) zero within f = f.0
fold-at hash known (l ∷ lines) (o ∷ os) (suc n) within f = fold-at hash (known_by known o) lines os n (omega arith) f.1

-- behind lines that have verdicts, what is known is the same whichever of these are named
same-behind : (hash : Hash) (lines : List (List ℕ)) (a b : List Verdict) → AreVerdicts hash nothing lines a → AreVerdicts hash nothing lines b → known_by_all nothing a ≡ known_by_all nothing b
same-behind hash lines a b f g = all-same-known nothing a b (verdicts-one hash nothing lines a b f g)

-- lines that are taken have no rejected one among them
taken-rejected : (hash : Hash) (lines : List (List ℕ)) (os before : List Verdict) (n : ℕ) (next : Verdict) → n < length lines → AreTaken hash lines os
    → AreVerdicts hash nothing (take n lines) before → IsVerdict hash (known_by_all nothing before) (get_or lines n []) next → IsRejected next → ⊥
taken-rejected hash lines os before n next within taken f is rejected =
    let same : known_by_all nothing (take n os) ≡ known_by_all nothing before =
    same-behind hash (take n lines) (take n os) before (fold-take hash nothing lines os n taken.fold) f in
    let at : IsVerdict hash (known_by_all nothing before) (get_or lines n []) (get_or os n Passed) =
    subst (λ (k : Known). IsVerdict hash k (get_or lines n []) (get_or os n Passed)) same (fold-at hash nothing lines os n within taken.fold) in
    let size : length os ≡ length lines = fold-length hash nothing lines os taken.fold in
    taken.accepted n Passed (omega arith)
    (rejected-back (get_or os n Passed) next (verdict-one hash (known_by_all nothing before) (get_or lines n []) (get_or os n Passed) next at is) rejected)

-- kept lines are taken, or stop at one
pub stop-not-taken : (hash : Hash) (kept : List (List ℕ)) (os : List Verdict) (n : ℕ) → StopsKept hash kept n → AreTaken hash kept os → ⊥
stop-not-taken hash kept os n s taken = taken-rejected hash kept os s.before n s.next s.within taken s.taken.fold s.is s.rejected

earlier-stop : (hash : Hash) (kept : List (List ℕ)) (n m : ℕ) → n < m → StopsKept hash kept n → StopsKept hash kept m → ⊥
earlier-stop hash kept n m lt a b =
    let within : m < length kept = b.within in
    let size : length (take m kept) ≡ m = length-take-le m kept (omega arith) in
    let here : n < length (take m kept) = omega arith in
    taken-rejected hash (take m kept) b.before a.before n a.next here b.taken
    (subst (λ (ls : List (List ℕ)). AreVerdicts hash nothing ls a.before) (sym (take-take kept n m lt)) a.taken.fold)
    (subst (λ (l : List ℕ). IsVerdict hash (known_by_all nothing a.before) l a.next) (sym (get_or-take m kept n [] lt)) a.is)
    a.rejected

-- they stop at one line at most
pub one-stop : (hash : Hash) (kept : List (List ℕ)) (n m : ℕ) → StopsKept hash kept n → StopsKept hash kept m → n ≡ m
one-stop hash kept n m a b = elim (cases_lt n m) [
  | inl lt ↦ absurd (earlier-stop hash kept n m lt a b)
  | inr ge ↦ elim (cases_lt m n) [
    | inl gt ↦ absurd (earlier-stop hash kept m n gt b a)
    | inr le ↦ omega arith
  ]
]

-- a stream has one list of verdicts, but for the strings of forks
pub one-verdict : (hash : Hash) (kept : List (List ℕ)) (stream : List ℕ) (a b : List Verdict) → IsVerified hash kept stream a → IsVerified hash kept stream b → AreSameVerdicts a b
one-verdict hash kept stream a b x y =
    let texts : x.texts ≡ y.texts = texts-unique stream x.texts y.texts x.are y.are in
    let behind : known_by_all nothing x.judged.before ≡ known_by_all nothing y.judged.before =
    same-behind hash kept x.judged.before y.judged.before x.judged.taken.fold y.judged.taken.fold in
    let f : AreVerdicts hash (known_by_all nothing y.judged.before) x.texts a = subst (λ (k : Known). AreVerdicts hash k x.texts a) behind x.judged.fold in
    verdicts-one hash (known_by_all nothing y.judged.before) y.texts a b
    (subst (λ (ts : List (List ℕ)). AreVerdicts hash (known_by_all nothing y.judged.before) ts a) texts f) y.judged.fold

-- what is said of each way to end
pub record Ends (hash : Hash) (ended : Ended) (stream : List ℕ) (kept : List (List ℕ)) : Type 0 where
  pub verdicts : (ended ≡ the.Ok) ⊎ (ended ≡ the.Refused) ⊎ (ended ≡ the.Forked)
      → (os : List Verdict) × IsVerified hash kept stream os × (ended ≡ the.Ok → NoneRefused os × NoneForked os) × (ended ≡ the.Refused → SomeRefused os × NoneForked os) × (ended ≡ the.Forked → SomeForked os)
  pub no_read : ended ≡ the.ReadFault → ⊥
  pub no_write : ended ≡ the.WriteFault → ⊥
  pub no_keep : ended ≡ the.KeeperFault → ⊥
  pub stop : (k : ℕ) → ended ≡ the.Kept k → (n : ℕ) × (k ≡ n + 1) × StopsKept hash kept n
  pub long : ended ≡ the.Long → 67108864 < length stream
  pub short : (ended ≡ the.Long → ⊥) → (ended ≡ the.Memory → ⊥) → length stream ≤ 67108864

-- a stream that is short enough isn't too long
short-long : (stream : List ℕ) → length stream ≤ 67108864 → 67108864 < length stream → ⊥
short-long stream a b = omega arith

kept-before : (hash : Hash) (ended : Ended) (stream : List ℕ) (kept : List (List ℕ)) → Ends hash ended stream kept → (ended ≡ the.Ok) ⊎ (ended ≡ the.Refused) ⊎ (ended ≡ the.Forked)
    → (os : List Verdict) × AreTaken hash kept os
kept-before hash ended stream kept e done = let v = (e.verdicts done).1 in (v.judged.before, v.judged.taken)

long-end : (hash : Hash) (ended : Ended) (stream : List ℕ) (kept : List (List ℕ)) → Ends hash ended stream kept → 67108864 < length stream → (ended ≡ the.Long) ⊎ (ended ≡ the.Memory)
long-end hash the.Ok stream kept e long = absurd (short-long stream (e.short (λ q. cc) (λ q. cc)) long)
long-end hash the.Refused stream kept e long = absurd (short-long stream (e.short (λ q. cc) (λ q. cc)) long)
long-end hash the.Forked stream kept e long = absurd (short-long stream (e.short (λ q. cc) (λ q. cc)) long)
long-end hash the.ReadFault stream kept e long = absurd (e.no_read refl)
long-end hash the.WriteFault stream kept e long = absurd (e.no_write refl)
long-end hash the.KeeperFault stream kept e long = absurd (e.no_keep refl)
long-end hash the.Memory stream kept e long = inr refl
long-end hash the.Long stream kept e long = inl refl
long-end hash (the.Kept k) stream kept e long = absurd (short-long stream (e.short (λ q. cc) (λ q. cc)) long)

stops-end : (hash : Hash) (ended : Ended) (stream : List ℕ) (kept : List (List ℕ)) → Ends hash ended stream kept → (n : ℕ) → length stream ≤ 67108864 → StopsKept hash kept n
    → (ended ≡ the.Kept (n + 1)) ⊎ (ended ≡ the.Memory)
stops-end hash the.Ok stream kept e n short s = absurd (let t = kept-before hash the.Ok stream kept e (inl refl) in stop-not-taken hash kept t.0 n s t.1)
stops-end hash the.Refused stream kept e n short s = absurd (let t = kept-before hash the.Refused stream kept e (inr (inl refl)) in stop-not-taken hash kept t.0 n s t.1)
stops-end hash the.Forked stream kept e n short s = absurd (let t = kept-before hash the.Forked stream kept e (inr (inr refl)) in stop-not-taken hash kept t.0 n s t.1)
stops-end hash the.ReadFault stream kept e n short s = absurd (e.no_read refl)
stops-end hash the.WriteFault stream kept e n short s = absurd (e.no_write refl)
stops-end hash the.KeeperFault stream kept e n short s = absurd (e.no_keep refl)
stops-end hash the.Memory stream kept e n short s = inr refl
stops-end hash the.Long stream kept e n short s = absurd (short-long stream short (e.long refl))
stops-end hash (the.Kept k) stream kept e n short s =
    let found = e.stop k refl in
    inl (ap the.Kept (found.1 ∙ ap (λ m. m + 1) (one-stop hash kept found.0 n found.2 s)))

runs-end : (hash : Hash) (ended : Ended) (stream : List ℕ) (kept : List (List ℕ)) → Ends hash ended stream kept → (before : List Verdict) → length stream ≤ 67108864 → AreTaken hash kept before
    → (ended ≡ the.Ok) ⊎ (ended ≡ the.Refused) ⊎ (ended ≡ the.Forked) ⊎ (ended ≡ the.Memory)
runs-end hash the.Ok stream kept e before short t = inl refl
runs-end hash the.Refused stream kept e before short t = inr (inl refl)
runs-end hash the.Forked stream kept e before short t = inr (inr (inl refl))
runs-end hash the.ReadFault stream kept e before short t = absurd (e.no_read refl)
runs-end hash the.WriteFault stream kept e before short t = absurd (e.no_write refl)
runs-end hash the.KeeperFault stream kept e before short t = absurd (e.no_keep refl)
runs-end hash the.Memory stream kept e before short t = inr (inr (inr refl))
runs-end hash the.Long stream kept e before short t = absurd (short-long stream short (e.long refl))
runs-end hash (the.Kept k) stream kept e before short t = absurd (let found = e.stop k refl in stop-not-taken hash kept before found.0 found.2 t)

-- what a run ended with is said of each list of the stream's verdicts: these have a refused line, or a fork, where that one has
told-refused : (hash : Hash) (ended : Ended) (stream : List ℕ) (kept : List (List ℕ)) → Ends hash ended stream kept → ended ≡ the.Refused → (os : List Verdict) → IsVerified hash kept stream os → NoneRefused os → ⊥
told-refused hash ended stream kept e refused os v none =
    let told = e.verdicts (inr (inl refused)) in
    none-and-some IsRefused told.0 (none-refused-same os told.0 (one-verdict hash kept stream os told.0 v told.1) none) (told.3 refused).0

told-forked : (hash : Hash) (ended : Ended) (stream : List ℕ) (kept : List (List ℕ)) → Ends hash ended stream kept → ended ≡ the.Forked → (os : List Verdict) → IsVerified hash kept stream os → NoneForked os → ⊥
told-forked hash ended stream kept e forked os v none =
    let told = e.verdicts (inr (inr forked)) in
    none-and-some IsForked told.0 (none-forked-same os told.0 (one-verdict hash kept stream os told.0 v told.1) none) (told.4 forked)

-- and have none where it has none
told-none : (hash : Hash) (ended : Ended) (stream : List ℕ) (kept : List (List ℕ)) → Ends hash ended stream kept → ended ≡ the.Ok → (os : List Verdict) → IsVerified hash kept stream os → NoneRefused os × NoneForked os
told-none hash ended stream kept e ok os v =
    let told = e.verdicts (inl ok) in
    let same : AreSameVerdicts told.0 os = one-verdict hash kept stream told.0 os told.1 v in
    (none-refused-same told.0 os same (told.2 ok).0, none-forked-same told.0 os same (told.2 ok).1)

told-unforked : (hash : Hash) (ended : Ended) (stream : List ℕ) (kept : List (List ℕ)) → Ends hash ended stream kept → ended ≡ the.Refused → (os : List Verdict) → IsVerified hash kept stream os → NoneForked os
told-unforked hash ended stream kept e refused os v =
    let told = e.verdicts (inr (inl refused)) in
    none-forked-same told.0 os (one-verdict hash kept stream told.0 os told.1 v) (told.3 refused).1

passes-end : (hash : Hash) (ended : Ended) (stream : List ℕ) (kept : List (List ℕ)) → Ends hash ended stream kept → (os : List Verdict) → length stream ≤ 67108864 → IsVerified hash kept stream os → NoneRefused os → NoneForked os
    → (ended ≡ the.Ok) ⊎ (ended ≡ the.Memory)
passes-end hash ended stream kept e os short v none unforked =
    elim (runs-end hash ended stream kept e v.judged.before short v.judged.taken) [
      | inl ok ↦ inl ok
      | inr (inl refused) ↦ absurd (told-refused hash ended stream kept e refused os v none)
      | inr (inr (inl forked)) ↦ absurd (told-forked hash ended stream kept e forked os v unforked)
      | inr (inr (inr memory)) ↦ inr memory
    ]

refuses-end : (hash : Hash) (ended : Ended) (stream : List ℕ) (kept : List (List ℕ)) → Ends hash ended stream kept → (os : List Verdict) → length stream ≤ 67108864 → IsVerified hash kept stream os → SomeRefused os → NoneForked os
    → (ended ≡ the.Refused) ⊎ (ended ≡ the.Memory)
refuses-end hash ended stream kept e os short v some unforked =
    elim (runs-end hash ended stream kept e v.judged.before short v.judged.taken) [
      | inl ok ↦ absurd (none-and-some IsRefused os (told-none hash ended stream kept e ok os v).0 some)
      | inr (inl refused) ↦ inl refused
      | inr (inr (inl forked)) ↦ absurd (told-forked hash ended stream kept e forked os v unforked)
      | inr (inr (inr memory)) ↦ inr memory
    ]

forks-end : (hash : Hash) (ended : Ended) (stream : List ℕ) (kept : List (List ℕ)) → Ends hash ended stream kept → (os : List Verdict) → length stream ≤ 67108864 → IsVerified hash kept stream os → SomeForked os
    → (ended ≡ the.Forked) ⊎ (ended ≡ the.Memory)
forks-end hash ended stream kept e os short v some =
    elim (runs-end hash ended stream kept e v.judged.before short v.judged.taken) [
      | inl ok ↦ absurd (none-and-some IsForked os (told-none hash ended stream kept e ok os v).1 some)
      | inr (inl refused) ↦ absurd (none-and-some IsForked os (told-unforked hash ended stream kept e refused os v) some)
      | inr (inr (inl forked)) ↦ inl forked
      | inr (inr (inr memory)) ↦ inr memory
    ]

-- so what they hold decides
pub fate : (hash : Hash) (ended : Ended) (stream : List ℕ) (kept : List (List ℕ)) → Ends hash ended stream kept → HasFate hash ended stream kept
fate hash ended stream kept e = record {
  too_long = long-end hash ended stream kept e;
  stops = stops-end hash ended stream kept e;
  runs = runs-end hash ended stream kept e;
  passes = passes-end hash ended stream kept e;
  refuses = refuses-end hash ended stream kept e;
  forks = forks-end hash ended stream kept e;
}

-- what was verified, of the kept lines where the keeper tells them
verified-held : (hash : Hash) (ended : Ended) (stream : List ℕ) (before after : Option (List ℕ)) (lines : List (List ℕ)) (now : Option (List (List ℕ)))
    (v : Verifies hash ended (Some stream) before after (Some lines) now) → IsVerified hash lines stream v.verdicts
verified-held hash ended stream before after lines now v =
    subst (λ (ks : List (List ℕ)). IsVerified hash ks stream v.verdicts) (sym v.kept_is) (subst (λ (s : List ℕ). IsVerified hash v.kept s v.verdicts) (sym v.stream_is) v.verified)

-- the same where the keeper tells what it holds
fate-kept : (hash : Hash) (ended : Ended) (stream : List ℕ) (before after : Option (List ℕ)) (held now : Option (List (List ℕ)))
    → length stream ≤ 67108864
    → ((ended ≡ the.ReadFault) ⊎ (ended ≡ the.Long) → ⊥) → (ended ≡ the.WriteFault → ⊥) → (ended ≡ the.KeeperFault → ⊥)
    → ((ended ≡ the.Ok) ⊎ (ended ≡ the.Refused) ⊎ (ended ≡ the.Forked) → Verifies hash ended (Some stream) before after held now)
    → ((k : ℕ) → ended ≡ the.Kept k → StopsHeld hash held k)
    → IfSome held (HasFate hash ended stream)
fate-kept hash ended stream before after None now short never write keep done stop = tt
fate-kept hash ended stream before after (Some lines) now short never write keep done stop = fate hash ended stream lines (record {
  verdicts = λ e. let v = done e in (v.verdicts, verified-held hash ended stream before after lines now v, v.accepted, v.refused, v.forked);
  no_read = λ e. never (inl e);
  no_write = write;
  no_keep = keep;
  stop = λ k e. let s = stop k e in (s.n, s.number, subst (λ (ks : List (List ℕ)). StopsKept hash ks s.n) (sym s.kept_is) s.stops);
  long = λ e. absurd (never (inr e));
  short = λ _ _. short;
})

-- the same where the source and the keeper tell what they hold, of the clauses of a run over what was read
pub fate-told : (hash : Hash) (ended : Ended) (left : Option (List ℕ)) (stream slice : List ℕ) (before after : Option (List ℕ)) (held now : Option (List (List ℕ)))
    → IfSome left (λ xs. stream ≡ xs) → slice ≡ stream → length stream ≤ 67108864
    → ((ended ≡ the.ReadFault) ⊎ (ended ≡ the.Long) → ⊥) → (ended ≡ the.WriteFault → ⊥) → (ended ≡ the.KeeperFault → ⊥)
    → ((ended ≡ the.Ok) ⊎ (ended ≡ the.Refused) ⊎ (ended ≡ the.Forked) → Verifies hash ended (Some slice) before after held now)
    → ((k : ℕ) → ended ≡ the.Kept k → StopsHeld hash held k)
    → IfSome left (λ s. IfSome held (HasFate hash ended s))
fate-told hash ended left stream slice before after held now read same short never write keep done stop =
    told left stream slice (λ s. IfSome held (HasFate hash ended s)) read same
    (fate-kept hash ended slice before after held now (subst (λ (s : List ℕ). length s ≤ 67108864) (sym same) short) never write keep done stop)
