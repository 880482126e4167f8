-- Drafts that are the entries of a transaction ask for what may be placed.
use Rattle.std.proofs.Common.{◌≡◌, ◌≢◌, ◌<◌, List, length, map, arith, refl, sym, ◌∙◌, ap, subst}
use Rattle.std.specs.Prelude.{All, AllPairs}
use Rattle.std.proofs.lemmas.List.{get_or-map, length-map}
use Rattle.std.proofs.lemmas.List.Elements.{All-map, All-weaker}
use Rattle.im_model.specs.History.{IsEntry}
use Rattle.im_model.specs.declared.entries.Entry.{Entry}
use Rattle.im_draft.specs.Drafts.{AreEntries, IsFine, HaveDistinctKeys, entry_of, no_draft}
use Rattle.im_draft.specs.declared.drafts.Draft.{Draft}
use Rattle.im_draft.specs.declared.preconditions.Pre.{Pre}
use Rattle.im_tx.specs.Asked.{IsAsked}

-- the entry of a draft within the limits is within them
pub IsEntry-entry_of : (draft : Draft) → IsFine draft → IsEntry (entry_of draft)
IsEntry-entry_of draft fine = record {
  deleted = draft.attrs.deleted;
  non_indexable = draft.attrs.non_indexable;
  md = refl;
  key_given = fine.key_given;
  key_short = fine.key_short;
  value_short = fine.value_short;
}

-- distinct keys of drafts are distinct keys of entries
pub distinct-map : (drafts : List Draft) → HaveDistinctKeys drafts → AllPairs (λ (a b : Entry). a.key ≢ b.key) (map entry_of drafts)
distinct-map drafts distinct i j d h k e =
    let within : j < length drafts = omega (arith, length-map drafts entry_of) in
    distinct i j no_draft h within
    (sym (ap (λ (x : Entry). x.key) (get_or-map entry_of drafts i no_draft d (omega arith))) ∙ e
    ∙ ap (λ (x : Entry). x.key) (get_or-map entry_of drafts j no_draft d within))

-- drafts that are the entries of a transaction ask for what may be placed
pub asked_from_drafts : (drafts : List Draft) (entries : List Entry) (pres : List Pre) → entries ≡ map entry_of drafts
    → AreEntries drafts → IsAsked (record { entries = entries; pres = pres })
asked_from_drafts drafts entries pres e are =
    let long : length entries ≡ length drafts = ap length e ∙ length-map drafts entry_of in
    record {
      some = omega (arith, long, are.some);
      few = omega (arith, long, are.few);
      each = subst (All IsEntry) (sym e)
          (All-map IsEntry entry_of drafts (All-weaker IsFine (λ d. IsEntry (entry_of d)) IsEntry-entry_of drafts are.each));
      distinct = subst (AllPairs (λ (a b : Entry). a.key ≢ b.key)) (sym e) (distinct-map drafts are.distinct);
    }
