-- Each version of a row's key that isn't a deletion is a row of the table, also where it isn't the last one.
use Rattle.std.proofs.Common.{◌≡◌, ◌≢◌, ◌≤◌, ◌<◌, ◌+◌, ◌||◌, inl, inr, ◌⊎◌, ℕ, zero, suc, Bool, true, false, not, cond, pos, List, [], ◌∷◌, ◌++◌, length, take, filter, map, get_or, AllPairs, Some, None, refl, sym, ap, ◌∙◌, subst, arith}
use Rattle.std.proofs.lemmas.List.{take_more, take_all, length-append, length-take-le}
use Rattle.std.proofs.lemmas.List.Elements.{All-from_recursion, recursion_from_All, filter-append}
use Rattle.std.proofs.lemmas.Slice.Eq.{bytes_eq-Decides}
use Rattle.std.specs.List.{All, AllByRecursion, AllZip, IsAmong, last_or}
use Rattle.im_octet.specs.Fields.{field4}
use Rattle.im_model.specs.History.{no_transaction, IsHistory}
use Rattle.im_model.specs.declared.entries.Entry.{Entry}
use Rattle.im_model.specs.declared.transactions.Transaction.{Transaction}
use Rattle.im_model.proofs.HistoryLemmas.{Follow-at, Follow-take}
use Rattle.im_versions.specs.Versions.{is_shown, is_of, version_of, versions_in, all_versions, versions_of, last_version, begins_with}
use Rattle.im_versions.specs.declared.versions.Version.{Version}
use Rattle.im_versions.proofs.ListLemmas.{among-cons, among-first, among-rest, among-filter, All-among}
use Rattle.im_versions.proofs.VersionLemmas.{versions-push, versions_in-number, versions-within}
use Rattle.im_sqlmodel.specs.Keys.{table_prefix, table_key, indexes_prefix, rows_prefix}
use Rattle.im_sqltype.specs.Orders.{octets_cmp}
use Rattle.im_sqltype.specs.declared.values.Value.{Value}
use Rattle.im_sqltype.specs.declared.values.Value.TheVariants.{Integer}
use Rattle.im_sqlmodel.specs.Rows.{IsLiveAs, IsRowVersion, IsRevision, HistoryIs, numbered, row_versions, revisions}
use Rattle.im_sqlmodel.specs.Sorts.{sorted}
use Rattle.im_sqlmodel.specs.Kept.{IsTableOf, IsText, IsSqlSound, IsSqlKept}
use Rattle.im_sqlmodel.specs.declared.tables.Table.{Table}
use Rattle.im_sqlmodel.proofs.KeptLemmas.{kept-sound}
use Rattle.im_sqlmodel.proofs.SortLemmas.{sorted-all}
use Rattle.im_catalog.specs.Rows.{HasRowText, IsRowIfLive}
use Rattle.im_catalog.proofs.FoundLemmas.{begins-is}
use Rattle.im_catalog.proofs.FrontLemmas.{begins-from}
use Rattle.im_catalog.proofs.RowLemmas.{row-of-text}
use Rattle.im_octet.proofs.Common.{bytes-other, last-push}

-- ---- versions of one transaction have distinct keys

abbrev ApartEntries : List Entry → Type 0
ApartEntries [] = Unit {0}
ApartEntries (e ∷ es) = AllByRecursion (λ (f : Entry). f.key ≢ e.key) es × ApartEntries es

abbrev ApartVersions : List Version → Type 0
ApartVersions [] = Unit {0}
ApartVersions (v ∷ vs) = AllByRecursion (λ (w : Version). w.key ≢ v.key) vs × ApartVersions vs

all-entries : (P : Entry → Type 0) (es : List Entry) → ((j : ℕ) (d : Entry) → j < length es → P (get_or es j d)) → AllByRecursion P es
all-entries P [] h = tt
all-entries P (e ∷ es) h = (h 0 e (omega arith), all-entries P es (λ j d l. h (suc j) d (omega (arith, l))))

apart-entries : (es : List Entry) → AllPairs (λ a b. a.key ≢ b.key) es → ApartEntries es
apart-entries [] h = tt
apart-entries (e ∷ es) h = (
  all-entries (λ f. f.key ≢ e.key) es (λ j d l same. h 0 (suc j) d (omega arith) (omega (arith, l)) (sym same)),
  apart-entries es (λ i j d less l. h (suc i) (suc j) d (omega (arith, less)) (omega (arith, l))),
)

all-versions : (k : ℕ) (P : List ℕ → Type 0) (es : List Entry) → AllByRecursion (λ (e : Entry). P e.key) es → AllByRecursion (λ (v : Version). P v.key) (versions_in k es)
all-versions k P [] all = tt
all-versions k P (e ∷ es) all = elim (is_shown e) as (λ (b : Bool). AllByRecursion (λ (v : Version). P v.key) (map (version_of k) (cond b (e ∷ filter is_shown es) (filter is_shown es)))) [
  | true ↦ (all.0, all-versions k P es all.1)
  | false ↦ all-versions k P es all.1
]

apart-versions : (k : ℕ) (es : List Entry) → ApartEntries es → ApartVersions (versions_in k es)
apart-versions k [] apart = tt
apart-versions k (e ∷ es) apart = elim (is_shown e) as (λ (b : Bool). ApartVersions (map (version_of k) (cond b (e ∷ filter is_shown es) (filter is_shown es)))) [
  | true ↦ (all-versions k (λ key. key ≢ e.key) es apart.0, apart-versions k es apart.1)
  | false ↦ apart-versions k es apart.1
]

-- ---- one version of a key among them

none-of : (key : List ℕ) (vs : List Version) → AllByRecursion (λ (w : Version). w.key ≢ key) vs → filter (is_of key) vs ≡ []
none-of key [] all = refl
none-of key (w ∷ ws) all =
    ap (λ (b : Bool). cond b (w ∷ filter (is_of key) ws) (filter (is_of key) ws)) (bytes-other w.key key all.0) ∙ none-of key ws all.1

one-of : (vs : List Version) (v : Version) → ApartVersions vs → IsAmong vs v → filter (is_of v.key) vs ≡ v ∷ []
one-of [] v apart m = absurd (let no : ⊥ = (let few : m.0 < 0 = m.1.0 in omega (arith, few)) in no)
one-of (w ∷ ws) v apart m = elim (among-cons w ws v m) [
  | inl same ↦ subst (λ (u : Version). filter (is_of u.key) (w ∷ ws) ≡ u ∷ []) (sym same)
      (ap (λ (b : Bool). cond b (w ∷ filter (is_of w.key) ws) (filter (is_of w.key) ws)) ((bytes_eq-Decides w.key w.key).1 refl) ∙ ap (λ us. w ∷ us) (none-of w.key ws apart.0))
  | inr rest ↦ (
      let other : v.key ≢ w.key = All-among (λ (u : Version). u.key ≢ w.key) ws v (All-from_recursion (λ (u : Version). u.key ≢ w.key) ws apart.0) rest in
      ap (λ (b : Bool). cond b (w ∷ filter (is_of v.key) ws) (filter (is_of v.key) ws)) (bytes-other w.key v.key (λ same. other (sym same))) ∙ one-of ws v apart.1 rest)
]

pub among-either : {A : Type 0} (xs ys : List A) (v : A) → IsAmong (xs ++ ys) v → IsAmong xs v ⊎ IsAmong ys v
among-either [] ys v m = inr m
among-either {A} (x ∷ xs) ys v m = elim (among-cons x (xs ++ ys) v m) [
  | inl same ↦ inl (subst (IsAmong (x ∷ xs)) (sym same) (among-first x xs))
  | inr rest ↦ (elim (among-either xs ys v rest) [ inl front ↦ inl (among-rest x xs v front) | inr back ↦ inr back ])
]

-- ---- a key has no more versions than there are transactions

at-most-one : (key : List ℕ) (vs : List Version) → ApartVersions vs → length (filter (is_of key) vs) ≤ 1
at-most-one key [] apart = omega arith
at-most-one key (w ∷ ws) apart = elim (is_of key w) as (λ (b : Bool). is_of key w ≡ b → length (cond b (w ∷ filter (is_of key) ws) (filter (is_of key) ws)) ≤ 1) [
  | true ↦ λ e. (
      let none : filter (is_of key) ws ≡ [] = subst (λ (k : List ℕ). filter (is_of k) ws ≡ []) ((bytes_eq-Decides w.key key).0 e) (none-of w.key ws apart.0) in
      let count : length (filter (is_of key) ws) ≡ 0 = ap length none in
      omega (arith, count))
  | false ↦ λ e. at-most-one key ws apart.1
] refl

few-up-to : (history : List Transaction) → IsHistory history → (key : List ℕ) (n : ℕ) → n ≤ length history → length (versions_of (take n history) key) ≤ n
few-up-to history is key zero h = omega arith
few-up-to history is key (suc n) h =
    let tx : Transaction = get_or history n no_transaction in
    let front : List Transaction = take n history in
    let added : List Version = versions_in (length front + 1) tx.entries in
    let more : take (n + 1) history ≡ front ++ tx ∷ [] = take_more history n no_transaction (omega (arith, h)) in
    let next : suc n ≡ n + 1 = omega arith in
    let formed = Follow-at 0 0 history n no_transaction is.follow (omega (arith, h)) in
    let all : versions_of (take (suc n) history) key ≡ versions_of front key ++ filter (is_of key) added =
    ap (λ k. versions_of (take k history) key) next ∙ ap (λ (g : List Transaction). versions_of g key) more
    ∙ ap (filter (is_of key)) (versions-push front tx) ∙ filter-append (is_of key) (all_versions front) added in
    let sum : length (versions_of (take (suc n) history) key) ≡ length (versions_of front key) + length (filter (is_of key) added) =
    ap length all ∙ length-append (versions_of front key) (filter (is_of key) added) in
    let one : length (filter (is_of key) added) ≤ 1 = at-most-one key added (apart-versions (length front + 1) tx.entries (apart-entries tx.entries formed.distinct)) in
    let few : length (versions_of front key) ≤ n = few-up-to history is key n (omega (arith, h)) in
    omega (arith, sum, one, few)

pub versions-few : (history : List Transaction) → IsHistory history → (key : List ℕ) → length (versions_of history key) ≤ length history
versions-few history is key =
    let within : length history ≤ length history = omega arith in
    subst (λ (g : List Transaction). length (versions_of g key) ≤ length history) (take_all (length history) history within) (few-up-to history is key (length history) within)

-- ---- a version was the last of its key behind its own transaction

behind-own : (history : List Transaction) (tx : Transaction) (v : Version) → AllPairs (λ a b. a.key ≢ b.key) tx.entries → IsAmong (versions_in (length history + 1) tx.entries) v
    → last_version (history ++ tx ∷ []) v.key ≡ Some v
behind-own history tx v apart m =
    let added : List Version = versions_in (length history + 1) tx.entries in
    ap (λ (vs : List Version). last_or None (filter (is_of v.key) vs)) (versions-push history tx)
    ∙ ap (λ (vs : List Version). last_or None vs) (filter-append (is_of v.key) (all_versions history) added)
    ∙ ap (λ (vs : List Version). last_or None (versions_of history v.key ++ vs)) (one-of added v (apart-versions (length history + 1) tx.entries (apart-entries tx.entries apart)) m)
    ∙ last-push None (versions_of history v.key) v

last-up-to : (history : List Transaction) → IsHistory history → (n : ℕ) → n ≤ length history → (v : Version) → IsAmong (all_versions (take n history)) v
    → last_version (take v.tx history) v.key ≡ Some v
last-up-to history is zero h v m = absurd (let no : ⊥ = (let few : m.0 < 0 = m.1.0 in omega (arith, few)) in no)
last-up-to history is (suc n) h v m =
    let tx : Transaction = get_or history n no_transaction in
    let front : List Transaction = take n history in
    let count : length front ≡ n = length-take-le n history (omega (arith, h)) in
    let more : take (n + 1) history ≡ front ++ tx ∷ [] = take_more history n no_transaction (omega (arith, h)) in
    let next : suc n ≡ n + 1 = omega arith in
    let there : IsAmong (all_versions front ++ versions_in (length front + 1) tx.entries) v =
    subst (λ (vs : List Version). IsAmong vs v) (versions-push front tx)
    (subst (λ (g : List Transaction). IsAmong (all_versions g) v) (ap (λ k. take k history) next ∙ more) m) in
    elim (among-either (all_versions front) (versions_in (length front + 1) tx.entries) v there) [
      | inl before ↦ last-up-to history is n (omega (arith, h)) v before
      | inr own ↦ (
          let number : v.tx ≡ length front + 1 = All-among (λ (w : Version). w.tx ≡ length front + 1) (versions_in (length front + 1) tx.entries) v (versions_in-number (length front + 1) tx.entries) own in
          let until : v.tx ≡ n + 1 = omega (arith, number, count) in
          let formed = Follow-at 0 0 history n no_transaction is.follow (omega (arith, h)) in
          ap (λ k. last_version (take k history) v.key) until ∙ ap (λ (g : List Transaction). last_version g v.key) more ∙ behind-own front tx v formed.distinct own)
    ]

pub version-last : (history : List Transaction) → IsHistory history → (v : Version) → IsAmong (all_versions history) v → last_version (take v.tx history) v.key ≡ Some v
version-last history is v m =
    let within : length history ≤ length history = omega arith in
    last-up-to history is (length history) within v (subst (λ (g : List Transaction). IsAmong (all_versions g) v) (sym (take_all (length history) history within)) m)

-- ---- and so it is a row

-- a table that was there is there still
table-stays : (history : List Transaction) (n : ℕ) (u : Table) → IsSqlSound history → IsTableOf (take n history) u → IsTableOf history u
table-stays history n u sound of =
    let begins : (begins_with table_prefix (table_key u.name) || begins_with indexes_prefix (table_key u.name)) ≡ true =
    ap (λ (b : Bool). b || begins_with indexes_prefix (table_key u.name)) (begins-from table_prefix u.name (table_key u.name) refl) in
    (of.0, (of.1.0, sound.settled n (table_key u.name) of.1.0 begins of.1.1 of.1.2, of.1.2, of.1.3))

pub version-row : (history : List Transaction) (t : Table) (v : Version) (rest : List ℕ) → IsHistory history → IsSqlKept history → IsTableOf history t → IsAmong (all_versions history) v
    → v.key ≡ 0 ∷ 4 ∷ field4 t.tid ++ rest → v.deleted ≡ false → HasRowText t v.key v.value
version-row history t v rest is kept of m e alive =
    let number = All-among (λ (w : Version). (1 ≤ w.tx) × (w.tx ≤ length history)) (all_versions history) v (versions-within history) m in
    let past : List Transaction = take v.tx history in
    let sound : IsSqlSound history = kept-sound history kept in
    let own : IsLiveAs past (0 ∷ 4 ∷ field4 t.tid ++ rest) v.value = subst (λ k. IsLiveAs past k v.value) e (v, version-last history is v m, alive, refl) in
    row-of-text past t v.key v.value rest (λ u found same. sound.once u t (table-stays history v.tx u sound found) of same) of.0.tid.1 e
    (subst (λ k. IsText past k v.value) (sym e) ((kept v.tx number.1).texts (4 ∷ field4 t.tid ++ rest) v.value own))

pub versions-rows : (history : List Transaction) (t : Table) → IsHistory history → IsSqlKept history → IsTableOf history t → All (IsRowIfLive t) (row_versions history t)
versions-rows history t is kept of = λ k d l alive.
    let v : Version = get_or (row_versions history t) k d in
    let found = among-filter (λ (w : Version). begins_with (rows_prefix t.tid) w.key) (all_versions history) v (among-at (row_versions history t) k d l) in
    let has = version-row history t v _ is kept of found.1 (begins-is (rows_prefix t.tid) v.key found.0) alive in
    (has.0, (has.1, has.2, has.3))
  where
    among-at : (vs : List Version) (k : ℕ) (d : Version) → k < length vs → IsAmong vs (get_or vs k d)
    among-at [] k d l = absurd (let no : ⊥ = omega (arith, l) in no)
    among-at (v ∷ vs) zero d l = among-first v vs
    among-at (v ∷ vs) (suc k) d l = among-rest v vs (get_or vs k d) (among-at vs k d (omega (arith, l)))

-- ---- the history of rows

kept-numbered : (t : Table) (before vs : List Version) → AllByRecursion (IsRowIfLive t) vs → AllByRecursion (λ (p : ℕ × Version). IsRowIfLive t p.1) (numbered before vs)
kept-numbered t before [] all = tt
kept-numbered t before (v ∷ vs) all = (all.0, kept-numbered t (before ++ v ∷ []) vs all.1)

-- of a numbered version that is a row
abbrev pub IsNumberedRow : Table → ℕ × Version → Type 0
IsNumberedRow t p = (row : List Value) × IsRowVersion t p.1 row

live-rows : (t : Table) (ps : List (ℕ × Version)) → AllByRecursion (λ (p : ℕ × Version). IsRowIfLive t p.1) ps → AllByRecursion (IsNumberedRow t) (filter (λ p. not p.1.deleted) ps)
live-rows t [] all = tt
live-rows t (p ∷ ps) all = elim p.1.deleted as (λ (b : Bool). p.1.deleted ≡ b → AllByRecursion (IsNumberedRow t) (cond (not b) (p ∷ filter (λ q. not q.1.deleted) ps) (filter (λ q. not q.1.deleted) ps))) [
  | true ↦ λ e. live-rows t ps all.1
  | false ↦ λ e. (all.0 e, live-rows t ps all.1)
] refl

each-revision : (t : Table) (ps : List (ℕ × Version)) → AllByRecursion (IsNumberedRow t) ps → (rows : List (List Value)) × AllZip (IsRevision t) ps rows
each-revision t [] all = ([], tt)
each-revision t (p ∷ ps) all =
    let rest = each-revision t ps all.1 in
    ((all.0.0 ++ Integer (pos p.0) ∷ []) ∷ rest.0, ((all.0.0, all.0.1, refl), rest.1))

pub numbered-rows : (t : Table) (vs : List Version) → All (IsRowIfLive t) vs
    → AllByRecursion (IsNumberedRow t) (sorted (λ a b. octets_cmp a.1.key b.1.key) (filter (λ p. not p.1.deleted) (numbered [] vs)))
numbered-rows t vs all =
    sorted-all (λ (a b : ℕ × Version). octets_cmp a.1.key b.1.key) (IsNumberedRow t) (filter (λ p. not p.1.deleted) (numbered [] vs))
    (live-rows t (numbered [] vs) (kept-numbered t [] vs (recursion_from_All (IsRowIfLive t) vs all)))

-- there is a history of a table's rows
pub history-is : (history : List Transaction) (t : Table) → IsHistory history → IsSqlKept history → IsTableOf history t → (rows : List (List Value)) × HistoryIs history t rows
history-is history t is kept of =
    each-revision t (revisions history t) (numbered-rows t (row_versions history t) (versions-rows history t is kept of))

-- the first transactions of a history are one
pub history-taken : (n : ℕ) (history : List Transaction) → n ≤ length history → IsHistory history → IsHistory (take n history)
history-taken n history h is = record {
  few = (let count : length (take n history) ≡ n = length-take-le n history h in let few : length history ≤ 1048576 = is.few in omega (arith, count, h, few));
  follow = Follow-take 0 0 history n is.follow;
}
