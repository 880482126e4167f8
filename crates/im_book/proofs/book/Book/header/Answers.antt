use Rattle.std.proofs.Common.{◌≡◌, ◌∙◌, ap, get_or, arith, ◌-◌, length}
use Rattle.im_book.specs.Booked.{Booked}
use Rattle.im_book.proofs.BookLemmas.{header-kept, headers-counted}
use Rattle.im_book.proofs.book.Book.header.Goals as goal

pub index-requires : goal.index-requires
index-requires c =
    let m = c.requires.book in
    let size : length c.self.inside.headers.items ≡ length c.args.self.now.transactions =
    ap (λ (b : Booked). length b.headers) c.self.view_is ∙ headers-counted m.0 c.args.self.now m.1 in
    omega (arith, size, c.requires.first, c.requires.last)

pub returns : goal.returns
returns c hash book =
    c.index.ensures ∙ ap (λ (b : Booked). get_or b.headers (c.args.k - 1) c.index.result.now) c.self.view_is
    ∙ header-kept hash c.args.self.now c.args.k c.index.result.now book c.requires.first c.requires.last
