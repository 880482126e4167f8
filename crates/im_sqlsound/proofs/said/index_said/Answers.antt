use Rattle.std.proofs.Common.{◌≡◌, ◌≤◌, ◌++◌, ℕ, List, Err, length, take, sym, ap, subst, ◌∙◌, arith}
use Rattle.im_octet.specs.Fields.{field4}
use Rattle.im_sqlmodel.specs.Keys.{index_key}
use Rattle.im_sqlsound.proofs.SayLemmas.{prefix-six, iid-same, iid-key}
use Rattle.im_sqlsound.proofs.said.index_said.Goals as goal

pub iid_in-requires : goal.iid_in-requires
iid_in-requires c =
    let long : 6 ≤ length c.args.version.now.key = (prefix-six c.args.table.now.tid c.args.version.now.key c.requires.front).0 in
    omega (arith, long, ap length c.as_slice.ensures)

pub returns-in_default : goal.returns-in_default
returns-in_default c = λ i is.
    let six = prefix-six c.args.table.now.tid c.args.version.now.key c.requires.front in
    c.in_default.ensures.none i.iid is.0.iid.1
    (subst (λ (k : List ℕ). k ≡ take 6 k ++ field4 i.iid) (sym c.as_slice.ensures) (is.1 ∙ ap (λ (front : List ℕ). front ++ field4 i.iid) (sym six.1)))

pub returns-in-Ok : goal.returns-in-Ok
returns-in-Ok c =
    let tid = c.args.table.now.tid in
    let iid = c.in-Some.iid in
    let is = c.in-Ok.ensures.index in
    let read = subst (λ (k : List ℕ). k ≡ take 6 k ++ field4 iid) c.as_slice.ensures c.in-Some.ensures.some in
    (is.0, iid-key tid iid c.args.version.now.key c.requires.front read ∙ ap (index_key tid) (sym is.1), sym c.as_slice-2.ensures ∙ is.2)

pub returns-in-Err-NotText : goal.returns-in-Err-NotText
returns-in-Err-NotText c = λ i is.
    let iid = c.in-Some.iid in
    let read = subst (λ (k : List ℕ). k ≡ take 6 k ++ field4 iid) c.as_slice.ensures c.in-Some.ensures.some in
    c.read_index.ensures.none (c.in-Err-NotText.is ∙ ap (λ e. Err e) c.in-Err-NotText.field-0-is) i is.0
    (iid-same c.args.table.now.tid iid i.iid c.args.version.now.key (omega arith) is.0.iid.1 c.requires.front read is.1) (c.as_slice-2.ensures ∙ is.2)
