-- Calls that a disk took, up to each of them.
use Rattle.std.proofs.Common.{◌≡◌, ℕ, ◌+◌, ◌<◌, List, [], ◌∷◌, ◌++◌, length, get_or, take, drop, reverse, ap, sym, subst, ◌∙◌}
use Rattle.std.proofs.lemmas.List.{take_more, take-append-drop, reverse-append}
use Rattle.im_disk.specs.Disk.{Files}
use Rattle.im_disk.specs.Records.{FitsBehind, AreWithin}
use Rattle.im_disk.specs.declared.calls.Call.{Call}
use Rattle.im_image.proofs.CallLemmas.{reverse-last}

within-front : (first : Files) (later earlier : List Call) → AreWithin first (later ++ earlier) → AreWithin first earlier
within-front first [] earlier within = within
within-front first (call ∷ later) earlier within = within-front first later earlier within.1

-- a call at its place, where all of them fit
pub fits-each : (first : Files) (calls : List Call) (n : ℕ) (d : Call) → n < length calls → AreWithin first (reverse calls)
    → FitsBehind first (reverse (take n calls)) (get_or calls n d)
fits-each first calls n d h within =
    let whole : reverse calls ≡ reverse (drop (n + 1) calls) ++ reverse (take (n + 1) calls) =
    ap (λ (cs : List Call). reverse cs) (sym (take-append-drop (n + 1) calls)) ∙ reverse-append (take (n + 1) calls) (drop (n + 1) calls) in
    let front = within-front first (reverse (drop (n + 1) calls)) (reverse (take (n + 1) calls)) (subst (λ (cs : List Call). AreWithin first cs) whole within) in
    let last : reverse (take (n + 1) calls) ≡ get_or calls n d ∷ reverse (take n calls) =
    reverse-last (take (n + 1) calls) (take n calls) (get_or calls n d) (take_more calls n d h) in
    (subst (λ (cs : List Call). AreWithin first cs) last front).0
