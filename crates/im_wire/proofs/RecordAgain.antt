-- Headers, entries and proofs that are written are read again.
use Rattle.std.proofs.Common.{◌≡◌, ℕ, ◌≤◌, ◌^◌, suc, List, false, Option, Some, None, refl, arith}
use Rattle.std.specs.Prelude.{is_some}
use Rattle.serde_json.specs.Data.{depth}
use Rattle.serde_json.specs.Find.{as_null}
use Rattle.im_model.specs.declared.headers.Header.{Header}
use Rattle.im_model.specs.declared.entries.Entry.{Entry}
use Rattle.im_proof.specs.declared.proofs.AdvanceProof.{AdvanceProof}
use Rattle.im_proof.specs.declared.proofs.DualProof.{DualProof}
use Rattle.im_wire.specs.Fits.{IsHeader, IsEntryInRange, IsAdvanceProof, IsDualProof, IsAnchor}
use Rattle.im_wire.specs.Messages.{header_of_data, entry_of_data, advance_proof_of, dual_proof_of, anchor_of}
use Rattle.im_wire.specs.Texts.{digests_data, header_data, entry_data, advance_proof_data, dual_proof_data, anchor_data}
use Rattle.im_wire.proofs.ReadAgain.{IsPlain}
use Rattle.im_wire.proofs.FieldAgain.{digest-again, number-again, signed-again, octets-again, digests-again, digest_lists-again, signed-plain, digests-plain, digest_lists-plain, digests-depth, digest_lists-depth, max-within}

-- a header
pub header-again : (h : Header) → IsHeader h → header_of_data (header_data h) ≡ Some h
unfolding header_of_data header_data
header-again h fits =
    rw (
      digest-again h.bl_root fits.bl_root,
      number-again (2 ^ 64) h.bl_tx_id fits.bl_tx_id,
      digest-again h.eh fits.eh,
      number-again (2 ^ 64) h.id fits.id,
      octets-again 0 256 h.md fits.md,
      number-again (2 ^ 32) h.nentries fits.nentries,
      digest-again h.prev_alh fits.prev_alh,
      signed-again h.ts fits.ts,
      number-again (2 ^ 16) h.version fits.version,
    ) refl

-- an entry
pub entry-again : (e : Entry) → IsEntryInRange e → entry_of_data (entry_data e) ≡ Some e
unfolding entry_of_data entry_data
entry-again e fits = rw (octets-again 1 1024 e.key fits.key, octets-again 0 256 e.md fits.md, octets-again 0 4096 e.value fits.value) refl

-- a linear advance
pub advance_proof-again : (a : AdvanceProof) → IsAdvanceProof a → advance_proof_of (advance_proof_data a) ≡ Some a
unfolding advance_proof_of advance_proof_data
advance_proof-again a fits = rw (digest_lists-again a.inclusions fits.inclusions, digests-again a.terms fits.terms) refl

-- a dual proof
pub dual_proof-again : (p : DualProof) → IsDualProof p → dual_proof_of (dual_proof_data p) ≡ Some p
unfolding dual_proof_of dual_proof_data
dual_proof-again p fits =
    rw (
      digests-again p.consistency fits.consistency,
      digests-again p.inclusion fits.inclusion,
      digests-again p.last_inclusion fits.last_inclusion,
      digests-again p.linear fits.linear,
      advance_proof-again p.linear_advance fits.linear_advance,
      header-again p.source fits.source,
      header-again p.target fits.target,
      digest-again p.target_bl_tx_alh fits.target_bl_tx_alh,
    ) refl

not-null : (p : DualProof) → is_some (as_null (dual_proof_data p)) ≡ false
unfolding dual_proof_data
not-null p = refl

-- an anchor
pub anchor-again : (a : Option DualProof) → IsAnchor a → anchor_of (anchor_data a) ≡ Some a
unfolding anchor_of
anchor-again None fits = refl
anchor-again (Some p) fits = rw (not-null p, dual_proof-again p fits) refl

-- a header is plain
pub header-plain : (h : Header) → IsHeader h → IsPlain (header_data h)
unfolding header_data
header-plain h fits = (refl, (tt, (fits.bl_tx_id, (tt, (fits.id, (tt, (omega (arith, fits.nentries), (tt, (signed-plain h.ts fits.ts, (omega (arith, fits.version), tt))))))))))

-- an entry is plain
pub entry-plain : (e : Entry) → IsPlain (entry_data e)
unfolding entry_data
entry-plain e = (refl, (tt, (tt, (tt, tt))))

-- a linear advance is plain
pub advance_proof-plain : (a : AdvanceProof) → IsPlain (advance_proof_data a)
unfolding advance_proof_data
advance_proof-plain a = (refl, (digest_lists-plain a.inclusions, (digests-plain a.terms, tt)))

-- a dual proof is plain
pub dual_proof-plain : (p : DualProof) → IsDualProof p → IsPlain (dual_proof_data p)
unfolding dual_proof_data
dual_proof-plain p fits = (
  refl,
  (
    digests-plain p.consistency,
    (
      digests-plain p.inclusion,
      (
        digests-plain p.last_inclusion,
        (
          digests-plain p.linear,
          (advance_proof-plain p.linear_advance, (header-plain p.source fits.source, (header-plain p.target fits.target, (tt, tt)))),
        ),
      ),
    ),
  ),
)

-- an anchor is plain
pub anchor-plain : (a : Option DualProof) → IsAnchor a → IsPlain (anchor_data a)
anchor-plain None fits = tt
anchor-plain (Some p) fits = dual_proof-plain p fits

within-more : (a m n : ℕ) → m ≤ n → a ≤ m → a ≤ n
within-more a m n more h = omega arith

one-more : (a n : ℕ) → a ≤ n → suc a ≤ suc n
one-more a n h = omega arith

-- how deep a header nests
pub header-depth : (h : Header) → depth (header_data h) ≤ 1
unfolding header_data
header-depth h = omega arith

-- how deep an entry nests
pub entry-depth : (e : Entry) → depth (entry_data e) ≤ 1
unfolding entry_data
entry-depth e = omega arith

-- how deep a linear advance nests
pub advance_proof-depth : (a : AdvanceProof) → depth (advance_proof_data a) ≤ 3
unfolding advance_proof_data
advance_proof-depth a =
    one-more _ 2 (max-within _ _ 2 (digest_lists-depth a.inclusions) (max-within _ _ 2 (within-more _ 1 2 (omega arith) (digests-depth a.terms)) (omega arith)))

-- how deep a dual proof nests
pub dual_proof-depth : (p : DualProof) → depth (dual_proof_data p) ≤ 4
unfolding dual_proof_data
dual_proof-depth p =
    let list : (ds : List (List ℕ)) → depth (digests_data ds) ≤ 3 = λ ds. within-more _ 1 3 (omega arith) (digests-depth ds) in
    let head : (h : Header) → depth (header_data h) ≤ 3 = λ h. within-more _ 1 3 (omega arith) (header-depth h) in
    one-more _ 3 (max-within _ _ 3 (list p.consistency) (max-within _ _ 3 (list p.inclusion) (max-within _ _ 3 (list p.last_inclusion) (max-within _ _ 3 (list p.linear)
    (max-within _ _ 3 (advance_proof-depth p.linear_advance) (max-within _ _ 3 (head p.source) (max-within _ _ 3 (head p.target) (omega arith))))))))

-- how deep an anchor nests
pub anchor-depth : (a : Option DualProof) → depth (anchor_data a) ≤ 4
anchor-depth None = omega arith
anchor-depth (Some p) = dual_proof-depth p
