-- What one version, or a list of them, says.
use Rattle.std.proofs.Common.{◌≡◌, ◌≤◌, ◌<◌, ◌+◌, ◌-◌, ◌^◌, ℕ, zero, suc, true, List, [], ◌∷◌, ◌++◌, length, take, drop, get_or, sym, ap, ◌∙◌, subst, length-append, arith}
use Rattle.std.proofs.lemmas.List.{append-nil, length-drop, length-take-le, take-append-drop, take_all, take_at}
use Rattle.std.proofs.Math.Seq.{drop-append_seam}
use Rattle.std.specs.List.{AllZip}
use Rattle.im_octet.specs.Fields.{field4}
use Rattle.im_octet.proofs.Common.{no-octets}
use Rattle.im_octet.proofs.FieldLemmas.{length-field4, same-field4}
use Rattle.im_versions.specs.Versions.{begins_with}
use Rattle.im_versions.specs.declared.versions.Version.{Version}
use Rattle.im_sqlmodel.specs.Keys.{index_prefix, index_key}
use Rattle.im_catalog.proofs.FoundLemmas.{begins-is, length-prefix}

-- ---- a number in four octets

-- what is read is all that is there
pub field-read : (text left : List ℕ) (n : ℕ) → text ≡ field4 n ++ left → length left ≡ 0 → text ≡ field4 n
field-read text left n e none = e ∙ ap (λ (rest : List ℕ). field4 n ++ rest) (no-octets left none) ∙ append-nil (field4 n)

pub field-long : (text left : List ℕ) (n m : ℕ) → text ≡ field4 n ++ left → text ≡ field4 m → length left ≡ 0
field-long text left n m e is =
    let whole : length text ≡ length (field4 n) + length left = ap length e ∙ length-append (field4 n) left in
    let own : length text ≡ length (field4 m) = ap length is in
    omega (arith, whole, own, length-field4 n, length-field4 m)

pub field-short : (text : List ℕ) (m : ℕ) → length text < 4 → text ≡ field4 m → ⊥
field-short text m short is = (let own : length text ≡ length (field4 m) = ap length is in omega (arith, short, own, length-field4 m))

-- all that stands behind a place
pub behind-all : {A : Type 0} (n : ℕ) (xs : List A) → take (length xs - n) (drop n xs) ≡ drop n xs
behind-all n xs = take_all (length xs - n) (drop n xs) (let long : length (drop n xs) ≡ length xs - n = length-drop n xs in omega (arith, long))

-- ---- keys of a front

pub begins-long : (prefix key : List ℕ) → begins_with prefix key ≡ true → length prefix ≤ length key
begins-long prefix key begins =
    let whole : length key ≡ length prefix + length (drop (length prefix) key) = ap length (begins-is prefix key begins) ∙ length-append prefix (drop (length prefix) key) in
    omega (arith, whole)

-- ---- the number in an index's key

pub iid-some : (key left : List ℕ) (n : ℕ) → drop 6 key ≡ field4 n ++ left → length left ≡ 0 → key ≡ take 6 key ++ field4 n
iid-some key left n e none = sym (take-append-drop 6 key) ∙ ap (λ (rest : List ℕ). take 6 key ++ rest) (field-read (drop 6 key) left n e none)

pub iid-behind : (key : List ℕ) (iid : ℕ) → 6 ≤ length key → key ≡ take 6 key ++ field4 iid → drop 6 key ≡ field4 iid
iid-behind key iid long e =
    let six : length (take 6 key) ≡ 6 = length-take-le 6 key long in
    ap (drop 6) e ∙ ap (λ (n : ℕ). drop n (take 6 key ++ field4 iid)) (sym six) ∙ drop-append_seam (take 6 key) (field4 iid)

pub prefix-six : (tid : ℕ) (key : List ℕ) → begins_with (index_prefix tid) key ≡ true → (6 ≤ length key) × (take 6 key ≡ index_prefix tid)
prefix-six tid key begins =
    let long : length (index_prefix tid) ≤ length key = begins-long (index_prefix tid) key begins in
    let six : length (index_prefix tid) ≡ 6 = length-prefix tid in
    (omega (arith, long, six), ap (take 6) (begins-is (index_prefix tid) key begins) ∙ take_at (index_prefix tid) (drop (length (index_prefix tid)) key) 6 six)

-- the number that was read, and that of an index that the version says
pub iid-same : (tid iid other : ℕ) (key : List ℕ) → iid < 2 ^ 32 → other < 2 ^ 32 → begins_with (index_prefix tid) key ≡ true → key ≡ take 6 key ++ field4 iid → key ≡ index_key tid other → other ≡ iid
iid-same tid iid other key p q begins read is =
    let six = prefix-six tid key begins in
    let first : drop 6 key ≡ field4 iid = iid-behind key iid six.0 read in
    let second : drop 6 key ≡ field4 other = iid-behind key other six.0 (is ∙ ap (λ (front : List ℕ). front ++ field4 other) (sym six.1)) in
    same-field4 other iid q p (sym second ∙ first)

pub iid-key : (tid iid : ℕ) (key : List ℕ) → begins_with (index_prefix tid) key ≡ true → key ≡ take 6 key ++ field4 iid → key ≡ index_key tid iid
iid-key tid iid key begins read = read ∙ ap (λ (front : List ℕ). front ++ field4 iid) (prefix-six tid key begins).1

-- ---- lists of versions, one by one

-- all of them
pub zip-whole : {A : Type 0} (R : Version → A → Type 0) (shown : List Version) (said : List A) (i : ℕ) → length shown ≤ i → AllZip R (take i shown) said → AllZip R shown said
zip-whole {A} R shown said i past zip = subst (λ (vs : List Version). AllZip R vs said) (take_all i shown past) zip

-- one that says nothing
pub zip-nothing : {A : Type 0} (R : Version → A → Type 0) (shown : List Version) (i : ℕ) (v : Version) → i < length shown → v ≡ get_or shown i v → ((x : A) → R v x → ⊥) → (said : List A) → AllZip R shown said → ⊥
zip-nothing R [] i v l is none said zip = absurd (let no : ⊥ = omega (arith, l) in no)
zip-nothing R (w ∷ ws) i v l is none [] zip = absurd zip
zip-nothing {A} R (w ∷ ws) zero v l is none (x ∷ xs) zip = none x (subst (λ (u : Version). R u x) (sym is) zip.0)
zip-nothing R (w ∷ ws) (suc i) v l is none (x ∷ xs) zip = zip-nothing R ws i v (omega (arith, l)) is none xs zip.1
