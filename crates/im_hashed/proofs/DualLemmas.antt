-- The strings of a dual proof, part by part.
use Rattle.std.proofs.Common.{◌≡◌, ◌≢◌, ◌<◌, ◌≤◌, ℕ, List, [], ◌++◌, Bool, if◌then◌else◌, arith, ap, sym, ◌∙◌}
use Rattle.std.proofs.lemmas.Bool.{lt-ltb, le-ltb}
use Rattle.std.proofs.lemmas.List.{append_assoc}
use Rattle.im_digest.specs.Digests.{Hash}
use Rattle.im_model.specs.Headers.{alh, header_strings}
use Rattle.im_proof.specs.declared.proofs.DualProof.{DualProof}
use Rattle.im_carried.specs.Hashed.{path_strings, inclusion_strings, grown_strings, last_strings, linear_strings, advance_strings, dual_strings}
use Rattle.im_hashed.specs.Added.{AddsStrings, terms_start}
use Rattle.im_hashed.proofs.AddLemmas.{adds-as, adds-none, adds-then}

-- the source's path isn't due
pub inclusion-not : (hash : Hash) (s size : ℕ) (alh : List ℕ) (path a : List (List ℕ)) → size ≤ s → AddsStrings a a (inclusion_strings hash s size alh path)
inclusion-not hash s size alh path a past =
    adds-as a a [] (inclusion_strings hash s size alh path) (sym (ap (λ (t : Bool). if t then path_strings hash size s alh path else []) (le-ltb s size past))) (adds-none a)

-- it is
pub inclusion-due : (hash : Hash) (s size : ℕ) (alh : List ℕ) (path a b : List (List ℕ)) → s < size → AddsStrings a b (path_strings hash size s alh path) → AddsStrings a b (inclusion_strings hash s size alh path)
inclusion-due hash s size alh path a b less h =
    adds-as a b (path_strings hash size s alh path) (inclusion_strings hash s size alh path) (sym (ap (λ (t : Bool). if t then path_strings hash size s alh path else []) (lt-ltb s size less))) h

-- the last path isn't due
pub last-not : (hash : Hash) (size : ℕ) (alh : List ℕ) (path a : List (List ℕ)) → size ≡ 0 → AddsStrings a a (last_strings hash size alh path)
last-not hash size alh path a none =
    adds-as a a [] (last_strings hash size alh path) (sym (ap (λ (t : Bool). if t then path_strings hash size size alh path else []) (le-ltb 0 size (omega arith)))) (adds-none a)

-- it is
pub last-due : (hash : Hash) (size : ℕ) (alh : List ℕ) (path a b : List (List ℕ)) → size ≢ 0 → AddsStrings a b (path_strings hash size size alh path) → AddsStrings a b (last_strings hash size alh path)
last-due hash size alh path a b some h =
    adds-as a b (path_strings hash size size alh path) (last_strings hash size alh path) (sym (ap (λ (t : Bool). if t then path_strings hash size size alh path else []) (lt-ltb 0 size (omega arith)))) h

-- three parts, one behind the other
pub three-added : (a b c d s t u : List (List ℕ)) → AddsStrings a b s → AddsStrings b c t → AddsStrings c d u → AddsStrings a d (s ++ (t ++ u))
three-added a b c d s t u h k l = adds-then a b d s (t ++ u) h (adds-then b c d t u k l)

-- all parts of a dual proof
pub dual-added : (hash : Hash) (p : DualProof) (a b c d e : List (List ℕ)) → AddsStrings a b (header_strings hash p.source) → AddsStrings b c (header_strings hash p.target)
    → AddsStrings c d (inclusion_strings hash p.source.id p.target.bl_tx_id (alh hash p.source) p.inclusion
    ++ (grown_strings hash p.source.bl_tx_id p.target.bl_tx_id p.consistency ++ last_strings hash p.target.bl_tx_id p.target_bl_tx_alh p.last_inclusion))
    → AddsStrings d e (linear_strings hash (terms_start p.source.id p.target.bl_tx_id) p.linear
    ++ advance_strings hash p.source.bl_tx_id p.target.bl_tx_id p.linear_advance.terms p.linear_advance.inclusions)
    → AddsStrings a e (dual_strings hash p)
unfolding dual_strings
dual-added hash p a b c d e source target trees chains =
    let inclusion : List (List ℕ) = inclusion_strings hash p.source.id p.target.bl_tx_id (alh hash p.source) p.inclusion in
    let grown : List (List ℕ) = grown_strings hash p.source.bl_tx_id p.target.bl_tx_id p.consistency in
    let last : List (List ℕ) = last_strings hash p.target.bl_tx_id p.target_bl_tx_alh p.last_inclusion in
    let rest : List (List ℕ) = linear_strings hash (terms_start p.source.id p.target.bl_tx_id) p.linear ++ advance_strings hash p.source.bl_tx_id p.target.bl_tx_id p.linear_advance.terms p.linear_advance.inclusions in
    let headers : List (List ℕ) = header_strings hash p.source ++ header_strings hash p.target in
    let joined : (inclusion ++ (grown ++ last)) ++ rest ≡ inclusion ++ (grown ++ (last ++ rest)) =
    append_assoc inclusion (grown ++ last) rest ∙ ap (λ l. inclusion ++ l) (append_assoc grown last rest) in
    adds-as a e (headers ++ ((inclusion ++ (grown ++ last)) ++ rest)) (headers ++ (inclusion ++ (grown ++ (last ++ rest)))) (ap (λ l. headers ++ l) joined)
    (adds-then a c e headers ((inclusion ++ (grown ++ last)) ++ rest)
    (adds-then a b c (header_strings hash p.source) (header_strings hash p.target) source target)
    (adds-then c d e (inclusion ++ (grown ++ last)) rest trees chains))
