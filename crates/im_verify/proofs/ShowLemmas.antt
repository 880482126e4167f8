-- What `show` wrote, and how it ended.
use Rattle.std.proofs.Common.{◌≡◌, ◌⊎◌, ◌+◌, ◌<◌, ℕ, List, length, take, Option, Some, None, IfSome, refl, sym, ap, subst, ◌∙◌, inl, inr}
use Rattle.std.specs.Io.KnownBytes.{Appends}
use Rattle.im_digest.specs.Digests.{Hash}
use Rattle.im_facts.specs.Facts.{Known}
use Rattle.im_facts.specs.Keeping.{Kept, Knows}
use Rattle.im_facts.specs.Verdicts.{Verdict}
use Rattle.im_verify.specs.Judged.{AreTaken, StopsHeld, StopsKept}
use Rattle.im_verify.specs.Shows.{facts_text, known_text, HasShowFate, Shows, ShowsPart}
use Rattle.im_verify.specs.Turns.{TakesHeld}
use Rattle.im_verify.specs.declared.show.ShowEnd.{ShowEnd}
use Rattle.im_verify.specs.declared.show.ShowEnd.TheVariants as the
use Rattle.im_verify.proofs.FateLemmas.{one-stop, stop-not-taken}

-- the text of what is kept is that of what is known
pub text-known : (hash : Hash) (kept : Kept) (known : Known) (text : List ℕ) → Knows kept known → text ≡ facts_text hash kept.state kept.headers kept.entries → text ≡ known_text hash known
text-known hash kept known text knows e = e ∙ ap (known_text hash) knows.is

-- the whole text was written
pub shows_told : (hash : Hash) (held : Option (List (List ℕ))) (known : Known) (text slice : List ℕ) (before after : Option (List ℕ))
    → TakesHeld hash held known → slice ≡ text → text ≡ known_text hash known → Appends before after slice → Shows hash held before after
shows_told hash held known text slice before after t same is told = record {
  kept = t.kept;
  kept_is = t.kept_is;
  verdicts = t.takes.verdicts;
  taken = t.takes.taken;
  told = subst (λ (x : List ℕ). Appends before after x) (same ∙ is ∙ ap (known_text hash) t.takes.follows) told;
}

-- a front part of it was
pub shows_part : (hash : Hash) (held : Option (List (List ℕ))) (known : Known) (text slice : List ℕ) (before after : Option (List ℕ))
    → TakesHeld hash held known → slice ≡ text → text ≡ known_text hash known → (n : ℕ) × (n < length slice) × Appends before after (take n slice) → ShowsPart hash held before after
shows_part hash held known text slice before after t same is (n, less, told) =
    let all = same ∙ is ∙ ap (known_text hash) t.takes.follows in
    record {
      kept = t.kept;
      kept_is = t.kept_is;
      verdicts = t.takes.verdicts;
      taken = t.takes.taken;
      part = n;
      unfinished = subst (λ (x : List ℕ). n < length x) all less;
      told = subst (λ (x : List ℕ). Appends before after (take n x)) all told;
    }

-- lines that are taken are shown
taken-end : (hash : Hash) (end : ShowEnd) (lines : List (List ℕ)) → (end ≡ the.WriteFault → ⊥) → (end ≡ the.KeeperFault → ⊥) → ((k : ℕ) → end ≡ the.Kept k → StopsHeld hash (Some lines) k)
    → (verdicts : List Verdict) → AreTaken hash lines verdicts → (end ≡ the.Ok) ⊎ (end ≡ the.Memory)
taken-end hash the.Ok lines write keep stop verdicts t = inl refl
taken-end hash the.WriteFault lines write keep stop verdicts t = absurd (write refl)
taken-end hash the.KeeperFault lines write keep stop verdicts t = absurd (keep refl)
taken-end hash the.Memory lines write keep stop verdicts t = inr refl
taken-end hash (the.Kept k) lines write keep stop verdicts t =
    let s = stop k refl in
    absurd (stop-not-taken hash lines verdicts s.n (subst (λ (ks : List (List ℕ)). StopsKept hash ks s.n) (sym s.kept_is) s.stops) t)

-- and such that stop are told
stopped-end : (hash : Hash) (end : ShowEnd) (lines : List (List ℕ)) (before after : Option (List ℕ)) → (end ≡ the.WriteFault → ⊥) → (end ≡ the.KeeperFault → ⊥)
    → (end ≡ the.Ok → Shows hash (Some lines) before after) → ((k : ℕ) → end ≡ the.Kept k → StopsHeld hash (Some lines) k)
    → (n : ℕ) → StopsKept hash lines n → (end ≡ the.Kept (n + 1)) ⊎ (end ≡ the.Memory)
stopped-end hash the.Ok lines before after write keep ok stop n stops =
    let s = ok refl in
    absurd (stop-not-taken hash lines s.verdicts n stops (subst (λ (ks : List (List ℕ)). AreTaken hash ks s.verdicts) (sym s.kept_is) s.taken))
stopped-end hash the.WriteFault lines before after write keep ok stop n stops = absurd (write refl)
stopped-end hash the.KeeperFault lines before after write keep ok stop n stops = absurd (keep refl)
stopped-end hash the.Memory lines before after write keep ok stop n stops = inr refl
stopped-end hash (the.Kept k) lines before after write keep ok stop n stops =
    let s = stop k refl in
    let here : StopsKept hash lines s.n = subst (λ (ks : List (List ℕ)). StopsKept hash ks s.n) (sym s.kept_is) s.stops in
    inl (ap the.Kept (s.number ∙ ap (λ m. m + 1) (one-stop hash lines s.n n here stops)))

-- so what the keeper holds decides
pub show-fate : (hash : Hash) (end : ShowEnd) (held : Option (List (List ℕ))) (before after : Option (List ℕ)) → (end ≡ the.WriteFault → ⊥) → (end ≡ the.KeeperFault → ⊥)
    → (end ≡ the.Ok → Shows hash held before after) → ((k : ℕ) → end ≡ the.Kept k → StopsHeld hash held k) → IfSome held (HasShowFate hash end)
show-fate hash end None before after write keep ok stop = tt
show-fate hash end (Some lines) before after write keep ok stop = record {
  taken = taken-end hash end lines write keep stop;
  stops = stopped-end hash end lines before after write keep ok stop;
}
