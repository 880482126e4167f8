use Rattle.std.proofs.Common.{◌≡◌, ◌∙◌, List, sym, subst}
use Rattle.im_draft.specs.declared.preconditions.Pre.{Pre}
use Rattle.im_model.specs.declared.entries.Entry.{Entry}
use Rattle.im_tx.specs.Asked.{Asked, IsAsked}
use Rattle.im_tx.proofs.prepared.Prepared.try_clone.Goals as goal

-- the copies, and what was copied
same : (asked : Asked) (entries : List Entry) (pres : List Pre) → entries ≡ asked.entries → pres ≡ asked.pres → record { entries = entries; pres = pres } ≡ asked
same asked entries pres one two = λ i. record { entries = one i; pres = two i }

pub new-requires : goal.new-requires
new-requires c =
    subst IsAsked
    (sym (same c.args.self.now c.in_ok-entries.entries c.in_ok-pres.pres (c.in_ok-entries.ensures ∙ c.entries.ensures.value) (c.in_ok-pres.ensures ∙ c.pres.ensures.value)))
    c.entries.ensures.asked

pub returns : goal.returns
returns c =
    c.new.ensures
    ∙ same c.args.self.now c.in_ok-entries.entries c.in_ok-pres.pres (c.in_ok-entries.ensures ∙ c.entries.ensures.value) (c.in_ok-pres.ensures ∙ c.pres.ensures.value)
