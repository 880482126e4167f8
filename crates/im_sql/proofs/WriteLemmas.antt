-- A map of what is written is the list of it.
use Rattle.std.proofs.Common.{◌≡◌, ℕ, Bool, true, false, cond, List, [], ◌∷◌, map, find, bytes_eq, Option, Some, refl, sym, ap, ◌∙◌}
use Rattle.std.proofs.lemmas.Map.Text.{is_eq-slice_cmp}
use Rattle.std.specs.BTreeMap.{insert_entry, is_at}
use Rattle.std.specs.Cmp.Lexicographic.{slice_cmp}
use Rattle.std.specs.Map.{lookup}
use Rattle.std.specs.Option.{option_map}
use Rattle.std.specs.Ordering.{nat_cmp, match_ordering}
use Rattle.std.specs.declared.cmp.Ordering.{Ordering}
use Rattle.std.specs.declared.cmp.Ordering.TheVariants.{Less, Equal, Greater}
use Rattle.im_versions.proofs.ScanLemmas.{same-key}
use Rattle.im_sqlmodel.specs.Options.{by_ordering}
use Rattle.im_sqlmodel.specs.Writes.{put_written}
use Rattle.im_sqlmodel.specs.declared.written.Written.{Written}
use Rattle.im_sql.specs.Writing.{written_at}

module _ {K : Type 0} (octets : K → List ℕ) where
  abbrev pub Entry : Type 0
  Entry = K × Option (List ℕ)

  abbrev pub written_of : Entry → Written
  written_of e = record { key = octets e.0; value = e.1 }

  abbrev key_cmp : K → K → Ordering
  key_cmp x y = slice_cmp nat_cmp (octets x) (octets y)

  step : (o : Ordering) (e : Entry) (es : List Entry) (k : K) (v : Option (List ℕ)) → o ≡ key_cmp k e.0
      → map written_of (insert_entry key_cmp es k v) ≡ put_written (written_of (k, v)) (map written_of es)
      → map written_of (match_ordering o ((k, v) ∷ e ∷ es) ((e.0, v) ∷ es) (e ∷ insert_entry key_cmp es k v))
      ≡ by_ordering o (written_of (k, v) ∷ written_of e ∷ map written_of es) (written_of (k, v) ∷ map written_of es) (written_of e ∷ put_written (written_of (k, v)) (map written_of es))
  step Less e es k v is rest = refl
  step Equal e es k v is rest = ap (λ (key : List ℕ). record { key = key; value = v } ∷ map written_of es) (sym (same-key (octets k) (octets e.0) is))
  step Greater e es k v is rest = ap (λ ws. written_of e ∷ ws) rest

  -- an insertion puts it at its key
  pub insert-put : (es : List Entry) (k : K) (v : Option (List ℕ)) → map written_of (insert_entry key_cmp es k v) ≡ put_written (written_of (k, v)) (map written_of es)
  insert-put [] k v = refl
  insert-put (e ∷ es) k v = step (key_cmp k e.0) e es k v refl (insert-put es k v)

  found : (b : Bool) (e : Entry) (rest : Option (Option (List ℕ))) (others : Option Written) → rest ≡ option_map (λ w. w.value) others
      → cond b (Some e.1) rest ≡ option_map (λ (w : Written). w.value) (cond b (Some (written_of e)) others)
  found true e rest others same = refl
  found false e rest others same = same

  -- a look-up tells what is written there
  pub lookup-written : (es : List Entry) (key : List ℕ) → lookup (is_at (λ k. slice_cmp nat_cmp key (octets k))) es ≡ written_at (map written_of es) key
  lookup-written [] key = refl
  lookup-written (e ∷ es) key =
      ap (λ (b : Bool). cond b (Some e.1) (lookup (is_at (λ k. slice_cmp nat_cmp key (octets k))) es)) (is_eq-slice_cmp key (octets e.0))
      ∙ found (bytes_eq key (octets e.0)) e (lookup (is_at (λ k. slice_cmp nat_cmp key (octets k))) es) (find (λ (w : Written). bytes_eq key w.key) (map written_of es)) (lookup-written es key)
