use Rattle.std.proofs.Common.{◌≡◌, ◌++◌, ℕ, List, min, length, ap, sym, ◌∙◌, rules}
use Rattle.std.proofs.lemmas.List.{append-nil}
use Rattle.std.proofs.lemmas.Slice.Zip.{zip_end}
use Rattle.std.specs.Iterator.Adapters.{zip_first, zip_second}
use Rattle.std.specs.Slice.Iter.{iter_rest}
use Rattle.im_vlog.proofs.LogLemmas.{values_end}
use Rattle.im_vlog.proofs.octets.push_values.Goals as goal

pub returns : goal.returns
returns c =
    let s = c.into_iter-entry-iterator.result in
    let first : iter_rest (zip_first s) ≡ c.args.entries.now = search rules in
    let second : iter_rest (zip_second s) ≡ c.args.refs.now = search rules in
    let k : length c.loop-entry.yielded ≡ min (length c.args.entries.now) (length c.args.refs.now) =
    zip_end c.args.entries.now c.args.refs.now c.loop-entry.yielded s c.loop-entry.entry-iterator c.next.new.self c.next.result
    first second c.loop-entry.yielded_by c.in-None.is c.next.ensures.steps
    in
    sym (append-nil c.loop-entry.octets.items)
    ∙ ap (λ (l : List ℕ). c.loop-entry.octets.items ++ l) (sym (values_end c.args.log (length c.loop-entry.yielded) c.args.entries.now c.args.refs.now k))
    ∙ c.loop-entry.invariant
