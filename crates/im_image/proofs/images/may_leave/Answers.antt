use Rattle.std.proofs.Common.{◌<◌, ◌≤◌, List, [], reverse, refl, sym, ◌∙◌, subst, ap, arith, ⊎_elim}
use Rattle.std.proofs.lemmas.List.{get_or_past, get_or_read}
use Rattle.std.proofs.lemmas.Bool.{cases_lt, false≢true}
use Rattle.im_disk.specs.Records.{files_of, AreWithin}
use Rattle.im_disk.specs.declared.calls.Call.{Call}
use Rattle.im_image.proofs.ImageLemmas.{image-remains, remains-by, remains-image, remains-beyond}
use Rattle.im_image.proofs.PieceLemmas.{within-until}
use Rattle.im_image.proofs.images.may_leave.Goals as goal

pub may_remain-requires : goal.may_remain-requires
may_remain-requires c =
    subst (λ (cs : List Call). AreWithin (files_of c.args.first.now) cs) (c.synced_calls.ensures.until ∙ ap (λ (cs : List Call). reverse cs) (sym c.split_at.ensures.front))
    (within-until (files_of c.args.first.now) (reverse c.args.calls.now) c.requires.within)

pub returns-then-not-may_remain : goal.returns-then-not-may_remain
returns-then-not-may_remain c = (
  λ no. absurd (false≢true no),
  λ image.
      c.if-not-may_remain.ensures.1
      (remains-by (files_of c.args.first.now) c.loop-file.file _ _ _ _ _ _
      (c.synced_calls.ensures.until ∙ ap (λ (cs : List Call). reverse cs) (sym c.split_at.ensures.front))
      (c.synced_calls.ensures.since ∙ ap (λ (cs : List Call). reverse cs) (sym c.split_at.ensures.back))
      (sym (c.as_slice.ensures ∙ get_or_read c.args.image.now c.loop-file.file c.index-image-file.result (omega arith) c.index-image-file.is []))
      (image-remains (files_of c.args.first.now) (reverse c.args.calls.now) (files_of c.args.image.now) image c.loop-file.file)),
)

pub returns : goal.returns
returns c = (
  λ _.
      remains-image (files_of c.args.first.now) (reverse c.args.calls.now) (files_of c.args.image.now) c.requires.within
      (λ k.
      ⊎_elim
      (λ (h : k < 16). c.loop-file.invariant k (omega arith))
      (λ (far : 16 ≤ k).
      remains-beyond (files_of c.args.first.now) (reverse c.args.calls.now) k (files_of c.args.image.now k) far c.requires.within
      (get_or_past c.args.image.now k [] (omega arith) ∙ sym (get_or_past c.args.first.now k [] (omega arith))))
      (cases_lt k 16)),
  λ _. refl,
)
