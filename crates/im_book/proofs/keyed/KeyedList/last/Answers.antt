use Rattle.std.proofs.Common.{◌≡◌, ◌∙◌, ℕ, Bool, List, ap, false, length, not, subst, sym}
use Rattle.std.specs.Prelude.{MatchOption}
use Rattle.im_model.specs.declared.transactions.Transaction.{Transaction}
use Rattle.im_index.specs.Indexed.{IsIndexOf}
use Rattle.im_index.specs.Keys.{bare}
use Rattle.im_index.specs.Runs.{HasDigits}
use Rattle.im_index.proofs.TakenLemmas.{bare-live, bare-many, bare-number}
use Rattle.im_book.specs.Keyed.{Keyed}
use Rattle.im_book.proofs.KeyedLemmas.{keyed-history}
use Rattle.im_book.proofs.keyed.KeyedList.last.Goals as goal

pub last_in-requires : goal.last_in-requires
last_in-requires g c =
    let txs : List Transaction = c.args.self.now.transactions in
    let same : c.self.inside.transactions.items ≡ txs = ap (λ (k : Keyed). k.transactions) c.self.view_is in
    let all : c.self.inside.keys.taken ≡ length c.self.inside.transactions.items =
    ap (λ (k : Keyed). k.keyed) c.self.view_is ∙ c.has_all.ensures.all c.if-has_all.true ∙ sym (ap length same) in
    let is : IsIndexOf c.self.inside.keys (bare txs) =
    subst (λ (ts : List Transaction). IsIndexOf c.self.inside.keys (bare ts)) same (keyed-history c.self.inside.keys c.self.inside.transactions.items c.self.invariant all) in
    (bare txs, is)

pub returns-then-has_all-clause-number : goal.returns-then-has_all-clause-number
returns-then-has_all-clause-number g c =
    let txs : List Transaction = c.args.self.now.transactions in
    let same : c.self.inside.transactions.items ≡ txs = ap (λ (k : Keyed). k.transactions) c.self.view_is in
    let all : c.self.inside.keys.taken ≡ length c.self.inside.transactions.items =
    ap (λ (k : Keyed). k.keyed) c.self.view_is ∙ c.has_all.ensures.all c.if-has_all.true ∙ sym (ap length same) in
    let is : IsIndexOf c.self.inside.keys (bare txs) =
    subst (λ (ts : List Transaction). IsIndexOf c.self.inside.keys (bare ts)) same (keyed-history c.self.inside.keys c.self.inside.transactions.items c.self.invariant all) in
    subst (λ (n : ℕ). MatchOption c.last_in.result (n ≡ 0) (λ last. n ≡ last.tx)) (bare-number txs c.args.key.now) (c.last_in.ensures.number (bare txs) is)

pub returns-then-has_all-clause-live : goal.returns-then-has_all-clause-live
returns-then-has_all-clause-live g c =
    let txs : List Transaction = c.args.self.now.transactions in
    let same : c.self.inside.transactions.items ≡ txs = ap (λ (k : Keyed). k.transactions) c.self.view_is in
    let all : c.self.inside.keys.taken ≡ length c.self.inside.transactions.items =
    ap (λ (k : Keyed). k.keyed) c.self.view_is ∙ c.has_all.ensures.all c.if-has_all.true ∙ sym (ap length same) in
    let is : IsIndexOf c.self.inside.keys (bare txs) =
    subst (λ (ts : List Transaction). IsIndexOf c.self.inside.keys (bare ts)) same (keyed-history c.self.inside.keys c.self.inside.transactions.items c.self.invariant all) in
    subst (λ (b : Bool). MatchOption c.last_in.result (b ≡ false) (λ last. b ≡ not last.deleted)) (bare-live txs c.args.key.now) (c.last_in.ensures.live (bare txs) is)

pub returns-then-has_all-clause-cost : goal.returns-then-has_all-clause-cost
returns-then-has_all-clause-cost g c = λ keyed b fits.
    let txs : List Transaction = c.args.self.now.transactions in
    let same : c.self.inside.transactions.items ≡ txs = ap (λ (k : Keyed). k.transactions) c.self.view_is in
    let all : c.self.inside.keys.taken ≡ length c.self.inside.transactions.items =
    ap (λ (k : Keyed). k.keyed) c.self.view_is ∙ c.has_all.ensures.all c.if-has_all.true ∙ sym (ap length same) in
    let is : IsIndexOf c.self.inside.keys (bare txs) =
    subst (λ (ts : List Transaction). IsIndexOf c.self.inside.keys (bare ts)) same (keyed-history c.self.inside.keys c.self.inside.transactions.items c.self.invariant all) in
    c.last_in.ensures.cost (bare txs) b is (subst (HasDigits b) (sym (bare-many txs)) fits)

pub returns-clause-cost : goal.returns-clause-cost
returns-clause-cost g c = λ keyed b fits. absurd (c.has_all.ensures.lags c.if-has_all.false keyed)
