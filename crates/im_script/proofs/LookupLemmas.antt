-- Octets that are looked for and a transaction, and where a text is none.
use Rattle.std.proofs.Common.{◌≡◌, ℕ, List, Option, subst, sym, ◌∙◌}
use Rattle.im_text.specs.Fields.{IsOctets}
use Rattle.im_script.specs.Script.{IsAt, IsLookup}
use Rattle.im_script.specs.Arguments.{IsFirstField}
use Rattle.im_script.proofs.FieldLemmas.{octets-lack-space, octets-unique}
use Rattle.im_script.proofs.SetLemmas.{first-unique}
use Rattle.im_script.proofs.NumberLemmas.{at-end, at-unique}

lookup-parts : (text word mark octets : List ℕ) (at : Option ℕ) → IsFirstField text word mark → IsLookup text octets at → IsOctets word octets × IsAt mark at
lookup-parts text word mark octets at first (w, m, e, o, a) =
    let parts = first-unique w word m mark (octets-lack-space w octets o) first.0 (at-end m at a) first.2 (sym e ∙ first.1) in
    (subst (λ (t : List ℕ). IsOctets t octets) parts.0 o, subst (λ (t : List ℕ). IsAt t at) parts.1 a)

-- a text is no lookup where no octets stand before the first space
pub lookup-bad-octets : (text word mark : List ℕ) → IsFirstField text word mark → ((o : List ℕ) → IsOctets word o → ⊥) → (l : List ℕ × Option ℕ) → IsLookup text l.0 l.1 → ⊥
lookup-bad-octets text word mark first none l h = none l.0 (lookup-parts text word mark l.0 l.1 first h).0

-- a text is no lookup where no transaction is named from the first space on
pub lookup-bad-at : (text word mark : List ℕ) → IsFirstField text word mark → ((a : Option ℕ) → IsAt mark a → ⊥) → (l : List ℕ × Option ℕ) → IsLookup text l.0 l.1 → ⊥
lookup-bad-at text word mark first none l h = none l.1 (lookup-parts text word mark l.0 l.1 first h).1

-- a text says one lookup at most
pub lookup-unique : (text a b : List ℕ) (c d : Option ℕ) → IsLookup text a c → IsLookup text b d → (a ≡ b) × (c ≡ d)
lookup-unique text a b c d x (w, m, e, o, at) =
    let parts = lookup-parts text w m a c (octets-lack-space w b o, e, at-end m d at) x in
    (octets-unique w a b parts.0 o, at-unique m c d parts.1 at)
