-- Numbers, octets and digests that are written are read again.
use Rattle.std.proofs.Common.{◌≡◌, ℕ, ℤ, pos, negsuc, ◌<◌, ◌≤◌, ◌^◌, List, [], ◌∷◌, length, map, max, Some, refl, arith}
use Rattle.std.specs.List.{All}
use Rattle.std.proofs.lemmas.Bool.{lt-ltb, le-leb}
use Rattle.std.proofs.lemmas.List.Elements.{All-head, All-tail}
use Rattle.hex.proofs.HexLemmas.{decode_of-encode_lower, decode_sized-encode_lower}
use Rattle.serde_json.specs.Data.{Data, number, depth, items_depth}
use Rattle.serde_json.specs.Find.{of_integer}
use Rattle.serde_json.specs.View.{items_of}
use Rattle.im_wire.specs.Fields.{number_of, signed_of, octets_of, digest_of, digests_of, digest_lists_of, each_of}
use Rattle.im_wire.specs.Fits.{IsDigest, AreDigestOctets, AreDigestLists, IsBounded, IsSigned}
use Rattle.im_wire.specs.Texts.{hex_data, number_data, digests_data, digest_lists_data}
use Rattle.im_wire.proofs.ReadAgain.{IsPlain, ArePlain}

-- a digest
pub digest-again : (d : List ℕ) → IsDigest d → digest_of (hex_data d) ≡ Some d
unfolding digest_of
digest-again d h = rw (decode_sized-encode_lower d 32 h.len h.bytes) refl

-- a number below a limit
pub number-again : (limit n : ℕ) → n < limit → number_of limit (number_data n) ≡ Some n
unfolding number_of
number-again limit n h = rw (lt-ltb n limit h) refl

-- a number with a sign
pub signed-again : (z : ℤ) → IsSigned z → signed_of (number (of_integer z)) ≡ Some z
unfolding signed_of
signed-again (pos n) h = rw (lt-ltb n (2 ^ 63) h) refl
signed-again (negsuc n) h = refl

-- octets within limits
pub octets-again : (least most : ℕ) (xs : List ℕ) → IsBounded least most xs → octets_of least most (hex_data xs) ≡ Some xs
unfolding octets_of
octets-again least most xs h = rw (decode_of-encode_lower xs h.bytes, le-leb least (length xs) h.few, le-leb (length xs) most h.many) refl

each-again : {A : Type 0} (read : Data → _) (write : A → Data) (P : A → Type 0) → ((x : A) → P x → read (write x) ≡ Some x)
    → (xs : List A) → All P xs → each_of read (items_of (map write xs)) ≡ Some xs
each-again read write P one [] all = refl
each-again read write P one (x ∷ xs) all =
    rw (one x (All-head P x xs all), each-again read write P one xs (All-tail P x xs all)) refl

-- digests
pub digests-again : (ds : List (List ℕ)) → AreDigestOctets ds → digests_of (digests_data ds) ≡ Some ds
unfolding digests_of digests_data AreDigestOctets
digests-again ds all = each-again digest_of hex_data IsDigest digest-again ds all

-- lists of digests
pub digest_lists-again : (dss : List (List (List ℕ))) → AreDigestLists dss → digest_lists_of (digest_lists_data dss) ≡ Some dss
unfolding digest_lists_of digest_lists_data
digest_lists-again dss all = each-again digests_of digests_data AreDigestOctets digests-again dss all

-- a number with a sign is plain
pub signed-plain : (z : ℤ) → IsSigned z → IsPlain (number (of_integer z))
signed-plain (pos n) h = omega arith
signed-plain (negsuc n) h = h

each-plain : {A : Type 0} (write : A → Data) → ((x : A) → IsPlain (write x)) → (xs : List A) → ArePlain (items_of (map write xs))
each-plain write one [] = tt
each-plain write one (x ∷ xs) = (one x, each-plain write one xs)

-- digests are plain
pub digests-plain : (ds : List (List ℕ)) → IsPlain (digests_data ds)
unfolding digests_data
digests-plain ds = each-plain hex_data (λ d. tt) ds

-- lists of digests are plain
pub digest_lists-plain : (dss : List (List (List ℕ))) → IsPlain (digest_lists_data dss)
unfolding digest_lists_data
digest_lists-plain dss = each-plain digests_data digests-plain dss

-- the greater of two numbers within a bound is within it
pub max-within : (a b n : ℕ) → a ≤ n → b ≤ n → max a b ≤ n
max-within a b n x y = omega arith

each-depth : {A : Type 0} (write : A → Data) (n : ℕ) → ((x : A) → depth (write x) ≤ n) → (xs : List A) → items_depth (items_of (map write xs)) ≤ n
each-depth write n one [] = omega arith
each-depth write n one (x ∷ xs) = max-within _ _ n (one x) (each-depth write n one xs)

-- how deep digests nest
pub digests-depth : (ds : List (List ℕ)) → depth (digests_data ds) ≤ 1
unfolding digests_data
digests-depth ds = let inner = each-depth hex_data 0 (λ d. omega arith) ds in omega (arith, inner)

-- how deep lists of digests nest
pub digest_lists-depth : (dss : List (List (List ℕ))) → depth (digest_lists_data dss) ≤ 2
unfolding digest_lists_data
digest_lists-depth dss = let inner = each-depth digests_data 1 digests-depth dss in omega (arith, inner)
