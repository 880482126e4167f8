-- What is answered at a number is read off so many transactions; and which answers say that something was placed.
use Rattle.std.proofs.Common.{◌≡◌, ◌≤◌, ◌<◌, ◌-◌, ◌⊎◌, ℕ, List, take, get_or, true, false, inl, inr, refl, sym, ◌∙◌, ap, subst, arith, true≢false, map, Some, None, Ok}
use Rattle.std.proofs.lemmas.List.{get_or-take, take-take}
use Rattle.im_digest.specs.Digests.{Hash}
use Rattle.im_draft.specs.Drafts.{entry_of, Refuses}
use Rattle.im_draft.specs.declared.refusals.PrepareError.{PrepareError}
use Rattle.im_model.specs.History.{no_transaction, transaction_of}
use Rattle.im_model.specs.declared.transactions.Transaction.{Transaction}
use Rattle.im_report.proofs.PlacedLemmas.{advance-not-placed, get-not-placed, header-not-placed, history-not-placed, item-not-placed, linked-not-placed, none-not-placed, place-not-placed, prove-not-placed, refused-not-placed, reserved-not-placed, scanned-not-placed, state-not-placed}
use Rattle.im_report.proofs.StatementLemmas.{fault-not-placed, told-not-placed, unplaced-not-placed}
use Rattle.im_report.specs.Asking.{MayAsk}
use Rattle.im_report.specs.Reads.{history_reply, place_reply, IsGetAnswer, IsReadAt, IsScanAnswer}
use Rattle.im_report.specs.Replies.{advance_reply, header_reply, item_reply, linked_reply, prove_reply, state_reply}
use Rattle.im_report.specs.Report.{IsAnswer, tells_tx}
use Rattle.im_report.specs.Statements.{AsksToWrite, IsPlacedAs, IsRefusedAs, IsSqlAnswer}
use Rattle.im_script.specs.declared.commands.Command.{Command}
use Rattle.im_script.specs.declared.commands.Command.TheVariants.{Set, Get, Scan, History, Header, State, Prove, Advance, Item, Link, Sql}
use Rattle.im_sqlmodel.specs.Answers.{AnswerIs}
use Rattle.im_sqlmodel.specs.declared.answers.SqlOut.TheVariants as out
use Rattle.im_tx.specs.Asked.{Asked}
use Rattle.im_versions.specs.Admits.{place_refusal}
use Rattle.im_versions.specs.Versions.{versions_of}
use Rattle.im_versions.specs.declared.refusals.PlaceError.{PlaceError}
use Rattle.im_versions.specs.declared.refusals.PlaceError.TheVariants.{Full, Missing, Exists, Modified, Memory}

-- number n of two histories that begin with the same n transactions
transaction_same : (a b : List Transaction) (n : ℕ) → 1 ≤ n → take n a ≡ take n b → transaction_of a n ≡ transaction_of b n
transaction_same a b n some same =
    sym (get_or-take n a (n - 1) no_transaction (omega (arith, some)))
    ∙ (ap (λ (l : List Transaction). get_or l (n - 1) no_transaction) same ∙ get_or-take n b (n - 1) no_transaction (omega (arith, some)))

-- what is read off the first n of both
read_same : (read : List Transaction → List ℕ) (a b : List Transaction) (n : ℕ) (reply : List ℕ) → take n a ≡ take n b → reply ≡ read (take n a) → reply ≡ read (take n b)
read_same read a b n reply same e = e ∙ ap read same

-- the first of two histories that begin with the same n
front_same : (a b : List Transaction) (k n : ℕ) → k ≤ n → take n a ≡ take n b → take k a ≡ take k b
front_same a b k n le same = sym (take-take k n a le) ∙ (ap (take k) same ∙ take-take k n b le)

-- what a statement asks for behind the first transactions of two histories that begin with the same ones
asks_same : (a b : List Transaction) (text : List ℕ) (read : ℕ) (asked : Asked) → take read a ≡ take read b → AsksToWrite a text read asked → AsksToWrite b text read asked
asks_same a b text read asked same w = record {
  said = w.said;
  is = w.is;
  asks = subst (λ (h : List Transaction). AnswerIs h w.said (Ok (out.Write asked))) same w.asks;
}

-- and a command
pub may_ask_same : (a b : List Transaction) (read : ℕ) (c : Command) (asked : Asked) → take read a ≡ take read b → MayAsk a read c asked → MayAsk b read c asked
may_ask_same a b read (Set pres drafts) asked same asks = asks
may_ask_same a b read (Get key at) asked same asks = asks
may_ask_same a b read (Scan prefix at) asked same asks = asks
may_ask_same a b read (History key) asked same asks = asks
may_ask_same a b read (Header k) asked same asks = asks
may_ask_same a b read State asked same asks = asks
may_ask_same a b read (Prove s t) asked same asks = asks
may_ask_same a b read (Advance s t) asked same asks = asks
may_ask_same a b read (Item t i under) asked same asks = asks
may_ask_same a b read (Link count) asked same asks = asks
may_ask_same a b read (Sql text) asked same asks = asks_same a b text read asked same asks

-- no more was read than the number that is answered
read_within : (h : List Transaction) (asked : Asked) (read n : ℕ) (reply : List ℕ) → IsPlacedAs h asked read n reply ⊎ IsRefusedAs h asked read n reply → read ≤ n
read_within h asked read n reply (inl p) = omega (arith, p.behind)
read_within h asked read n reply (inr r) = r.within

-- what became of what a statement asked for
became_same : (a b : List Transaction) (asked : Asked) (read n : ℕ) (reply : List ℕ) → take n a ≡ take n b → take (n - 1) a ≡ take (n - 1) b
    → IsPlacedAs a asked read n reply ⊎ IsRefusedAs a asked read n reply → IsPlacedAs b asked read n reply ⊎ IsRefusedAs b asked read n reply
became_same a b asked read n reply same before (inl p) = inl (record {
  behind = p.behind;
  admitted = subst (λ (h : List Transaction). place_refusal h asked.pres ≡ None) before p.admitted;
  writes = ap (λ (t : Transaction). t.entries) (sym (transaction_same a b n (omega (arith, p.behind)) same)) ∙ p.writes;
  told = p.told;
})
became_same a b asked read n reply same before (inr r) = inr (record {
  within = r.within;
  why = r.why;
  refused = subst (λ (h : List Transaction). place_refusal h asked.pres ≡ Some r.why) same r.refused;
  told = r.told;
})

-- the reply to a statement
sql_same : (a b : List Transaction) (text : List ℕ) (n : ℕ) (reply : List ℕ) → take n a ≡ take n b → take (n - 1) a ≡ take (n - 1) b → IsSqlAnswer a text n reply → IsSqlAnswer b text n reply
sql_same a b text n reply same before (inl fault) = inl fault
sql_same a b text n reply same before (inr (inl t)) = inr (inl (record {
  said = t.said;
  is = t.is;
  answer = t.answer;
  judged = subst (λ (h : List Transaction). AnswerIs h t.said t.answer) same t.judged;
  told = t.told;
}))
sql_same a b text n reply same before (inr (inr w)) = inr (inr (record {
  read = w.read;
  asked = w.asked;
  asks = asks_same a b text w.read w.asked (front_same a b w.read n (read_within a w.asked w.read n reply w.told) same) w.asks;
  told = became_same a b w.asked w.read n reply same before w.told;
}))

-- what is answered at n where the first n, and the first n - 1, of both are the same
pub answer_same : (hash : Hash) (a b : List Transaction) (c : Command) (n : ℕ) (reply : List ℕ) → take n a ≡ take n b → take (n - 1) a ≡ take (n - 1) b → IsAnswer hash a c n reply → IsAnswer hash b c n reply
answer_same hash a b (Set pres drafts) n reply same before (inl reserved) = inl reserved
answer_same hash a b (Set pres drafts) n reply same before (inr (free, inl refused)) = inr (free, inl refused)
answer_same hash a b (Set pres drafts) n reply same before (inr (free, inr (are, inl (why, is, e)))) =
    inr (free, inr (are, inl (why, subst (λ (h : List Transaction). place_refusal h pres ≡ Some why) same is, e)))
answer_same hash a b (Set pres drafts) n reply same before (inr (free, inr (are, inr (some, none, writes, e)))) =
    inr (free, inr (are, inr (some, subst (λ (h : List Transaction). place_refusal h pres ≡ None) before none, ap (λ (t : Transaction). t.entries) (sym (transaction_same a b n some same)) ∙ writes, e)))
answer_same hash a b (Get key at) n reply same before is = subst (λ (h : List Transaction). IsReadAt h at (IsGetAnswer key) reply) same is
answer_same hash a b (Scan prefix at) n reply same before is = subst (λ (h : List Transaction). IsReadAt h at (IsScanAnswer prefix) reply) same is
answer_same hash a b (History key) n reply same before is = read_same (λ h. history_reply (versions_of h key)) a b n reply same is
answer_same hash a b (Header k) n reply same before is = read_same (λ h. header_reply hash h k) a b n reply same is
answer_same hash a b State n reply same before is = read_same (state_reply hash) a b n reply same is
answer_same hash a b (Prove s t) n reply same before is = read_same (λ h. prove_reply hash h s t) a b n reply same is
answer_same hash a b (Advance s t) n reply same before is = read_same (λ h. advance_reply hash h s t) a b n reply same is
answer_same hash a b (Item t i None) n reply same before is = read_same (λ h. item_reply hash h t i n) a b n reply same is
answer_same hash a b (Item t i (Some s)) n reply same before is = read_same (λ h. item_reply hash h t i s) a b n reply same is
answer_same hash a b (Link count) n reply same before is = is
answer_same hash a b (Sql text) n reply same before is = sql_same a b text n reply same before is

-- nothing that is placed is refused for want of memory
no_memory : (why : PlaceError) (n : ℕ) → tells_tx (place_reply why) n ≡ false
unfolding place_reply
no_memory Memory n = none-not-placed n
no_memory Full n = place-not-placed Full n (λ e. cc e)
no_memory (Missing key) n = place-not-placed (Missing key) n (λ e. cc e)
no_memory (Exists key tx) n = place-not-placed (Exists key tx) n (λ e. cc e)
no_memory (Modified key tx) n = place-not-placed (Modified key tx) n (λ e. cc e)

-- the command asks for the entries of this transaction, where it is a statement behind fewer
abbrev pub AsksFor : List Transaction → Command → ℕ → Type 0
AsksFor h command n = (read : ℕ) × (asked : Asked) × MayAsk h read command asked × (read < n) × ((transaction_of h n).entries ≡ asked.entries)

-- a reply that says otherwise isn't `tx`
unsaid : {A : Type 0} (reply other : List ℕ) (n : ℕ) → tells_tx reply n ≡ true → reply ≡ other → tells_tx other n ≡ false → A
unsaid reply other n is e not = absurd (true≢false (sym is ∙ (ap (λ (r : List ℕ). tells_tx r n) e ∙ not)))

-- a statement whose reply is `tx` asks for the entries of that transaction
sql_asks : (h : List Transaction) (text : List ℕ) (n : ℕ) (reply : List ℕ) → tells_tx reply n ≡ true → IsSqlAnswer h text n reply → AsksFor h (Sql text) n
sql_asks h text n reply is (inl fault) = unsaid reply _ n is fault.told (fault-not-placed fault.fault n)
sql_asks h text n reply is (inr (inl t)) = absurd (true≢false (sym is ∙ told-not-placed t.answer reply n t.told))
sql_asks h text n reply is (inr (inr w)) = go w.told
  where
    go : IsPlacedAs h w.asked w.read n reply ⊎ IsRefusedAs h w.asked w.read n reply → AsksFor h (Sql text) n
    go (inl p) = (w.read, w.asked, w.asks, p.behind, p.writes)
    go (inr r) = absurd (true≢false (sym is ∙ unplaced-not-placed r.why w.read reply n r.told))

-- what is answered `tx` asks for the entries of that transaction
pub placed_asks : (hash : Hash) (h : List Transaction) (c : Command) (n : ℕ) (reply : List ℕ) → tells_tx reply n ≡ true → IsAnswer hash h c n reply → AsksFor h c n
placed_asks hash h (Set pres drafts) n reply is (inl (i, reserved, e)) = unsaid reply _ n is e (reserved-not-placed i n)
placed_asks hash h (Set pres drafts) n reply is (inr (free, inl (why, refuses, e))) =
    unsaid reply _ n is e (refused-not-placed why n (λ m. subst (λ (w : PrepareError). Refuses drafts w) m refuses))
placed_asks hash h (Set pres drafts) n reply is (inr (free, inr (are, inl (why, refuses, e)))) = unsaid reply (place_reply why) n is e (no_memory why n)
placed_asks hash h (Set pres drafts) n reply is (inr (free, inr (are, inr (some, none, writes, e)))) =
    (0, record { entries = map entry_of drafts; pres = pres }, (free, are, refl, refl), omega (arith, some), writes)
placed_asks hash h (Get key at) n reply is a = absurd (true≢false (sym is ∙ get-not-placed (take n h) key at reply n a))
placed_asks hash h (Scan prefix at) n reply is a = absurd (true≢false (sym is ∙ scanned-not-placed (take n h) prefix at reply n a))
placed_asks hash h (History key) n reply is e = unsaid reply _ n is e (history-not-placed (versions_of (take n h) key) n)
placed_asks hash h (Header k) n reply is e = unsaid reply _ n is e (header-not-placed hash (take n h) k n)
placed_asks hash h State n reply is e = unsaid reply _ n is e (state-not-placed hash (take n h) n)
placed_asks hash h (Prove s t) n reply is e = unsaid reply _ n is e (prove-not-placed hash (take n h) s t n)
placed_asks hash h (Advance s t) n reply is e = unsaid reply _ n is e (advance-not-placed hash (take n h) s t n)
placed_asks hash h (Item t i None) n reply is e = unsaid reply _ n is e (item-not-placed hash (take n h) t i n n)
placed_asks hash h (Item t i (Some s)) n reply is e = unsaid reply _ n is e (item-not-placed hash (take n h) t i s n)
placed_asks hash h (Link count) n reply is e = unsaid reply linked_reply n is e (linked-not-placed n)
placed_asks hash h (Sql text) n reply is a = sql_asks h text n reply is a
