use Rattle.std.proofs.Common.{◌≡◌, ◌∙◌, ap, sym, subst, ℕ, arith, length}
use Rattle.im_model.specs.History.{IsTransaction}
use Rattle.im_book.specs.Booked.{Booked}
use Rattle.im_book.proofs.BookLemmas.{alhs-counted}
use Rattle.im_book.proofs.book.Book.header_for.Goals as goal

pub next_header-requires-clause-tx : goal.next_header-requires-clause-tx
next_header-requires-clause-tx g c =
    let size : length c.as_slice-alhs.result.now ≡ length c.args.self.now.transactions =
    ap length c.as_slice-alhs.ensures.value ∙ ap (λ (b : Booked). length b.alhs) c.self.view_is ∙ alhs-counted (g.H.Hash32.digest c.args.hash.now) c.args.self.now c.requires.book in
    subst (λ (n : ℕ). IsTransaction n c.args.tx.now) (sym size) c.requires.limits

pub next_header-requires-clause-few : goal.next_header-requires-clause-few
next_header-requires-clause-few g c =
    let size : length c.as_slice-alhs.result.now ≡ length c.args.self.now.transactions =
    ap length c.as_slice-alhs.ensures.value ∙ ap (λ (b : Booked). length b.alhs) c.self.view_is ∙ alhs-counted (g.H.Hash32.digest c.args.hash.now) c.args.self.now c.requires.book in
    omega (arith, size, c.requires.room)
