use Rattle.std.proofs.Common.{◌≡◌, ◌∙◌, IfSome, ap, inl, inr, subst, sym}
use Rattle.im_digest.specs.Digests.{Hash}
use Rattle.im_verify.specs.declared.show.ShowEnd.{ShowEnd}
use Rattle.im_verify.specs.declared.show.ShowEnd.TheVariants as shows
use Rattle.im_status.specs.Fates.{HasShow}
use Rattle.im_status.specs.Statuses.{EndsShow, status_shown}
use Rattle.im_status.specs.declared.status.Status.{Status}
use Rattle.im_status.proofs.ShownLemmas.{show-told, shown-ends, shown-is, shown-never}
use Rattle.im_status.proofs.shown.shown.Goals as goal

pub returns : goal.returns
returns g c =
    let ran = c.show-end.ensures in
    let end : ShowEnd = c.show-end.result in
    let status : Status = c.status_of.result in
    let told : status ≡ status_shown end = c.status_of.ensures in
    let is : (x : ShowEnd) → status ≡ status_shown x → end ≡ x = λ x e. shown-is status end x told e in
    let hash : Hash = g.H.Hash32.digest c.args.hash.now in
    let kept = g.P.Keeper.kept c.args.keeper.now in
    record {
      ok = λ e. ran.ok (is shows.Ok e);
      part = λ e. ran.part (is shows.WriteFault e);
      nothing = λ how.
          ran.nothing (elim how [
            | inl e ↦ inl (is shows.KeeperFault e)
            | inr (inl e) ↦ inr (inl (is shows.Memory e))
            | inr (inr e) ↦ inr (inr (e.0, is (shows.Kept e.0) e.1))
          ]);
      stops = λ k e. ran.stops k (is (shows.Kept k) e);
      kept = ran.kept;
      ends = subst EndsShow (sym told) (shown-ends end);
      never = shown-never status end told;
      write = λ e. ran.write (is shows.WriteFault e);
      keep = λ e. ran.keep (is shows.KeeperFault e);
      sink_count = λ other. ran.sink_count (λ e. other (told ∙ ap status_shown e));
      keeper_count = λ other. ran.keeper_count (λ e. other (told ∙ ap status_shown e));
      sink_once = ran.sink_once;
      keeper_once = ran.keeper_once;
      fate = λ sink keeper. subst (λ (s : Status). IfSome kept (HasShow hash s)) (sym told) (show-told hash end kept (ran.complete sink keeper));
    }
