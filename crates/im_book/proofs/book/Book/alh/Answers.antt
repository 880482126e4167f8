use Rattle.std.proofs.Common.{◌≡◌, ◌∙◌, ap, get_or, arith, ◌-◌, length}
use Rattle.im_book.specs.Booked.{Booked}
use Rattle.im_book.proofs.BookLemmas.{alh-kept, alhs-counted}
use Rattle.im_book.proofs.book.Book.alh.Goals as goal

pub index-requires : goal.index-requires
index-requires c =
    let m = c.requires.book in
    let size : length c.self.inside.alhs.items ≡ length c.args.self.now.transactions =
    ap (λ (b : Booked). length b.alhs) c.self.view_is ∙ alhs-counted m.0 c.args.self.now m.1 in
    omega (arith, size, c.requires.first, c.requires.last)

pub returns : goal.returns
returns c hash book =
    c.index.ensures ∙ ap (λ (b : Booked). get_or b.alhs (c.args.k - 1) c.index.result.now) c.self.view_is
    ∙ alh-kept hash c.args.self.now c.args.k c.index.result.now book c.requires.first c.requires.last
