use Rattle.std.proofs.Common.{◌∙◌, arith, refl, ap, ◌++◌, ◌∷◌, []}
use Rattle.im_book.specs.Booked.{Booked}
use Rattle.im_book.proofs.BookLemmas.{book-placed, book-same}
use Rattle.im_book.proofs.book.Book.push.Goals as goal

pub push-requires : goal.push-requires
push-requires c = omega (arith, ap (λ (b : Booked). b.room) c.self.view_is, c.requires)

pub push_reserved-requires : goal.push_reserved-requires
push_reserved-requires c = omega (arith, ap (λ (b : Booked). b.room) c.self.view_is, c.requires)

pub push_reserved-requires-2 : goal.push_reserved-requires-2
push_reserved-requires-2 c = omega (arith, ap (λ (b : Booked). b.room) c.self.view_is, c.requires)

pub returns-clause-book : goal.returns-clause-book
returns-clause-book c hash book room is over header_is digest_is =
    let after : Booked = record {
      transactions = c.push.new.self.transactions;
      headers = c.push_reserved.new.self.items;
      alhs = c.push_reserved-2.new.self.items;
      keyed = c.args.self.now.keyed;
      room = c.args.self.now.room;
    } in
    book-same hash _ after refl refl refl
    (book-placed hash c.args.self.now after c.args.tx c.args.header c.args.digest book room is over header_is digest_is
    (c.push.ensures.grown ∙ ap (λ (b : Booked). b.transactions ++ c.args.tx ∷ []) c.self.view_is)
    (c.push_reserved.ensures.items ∙ ap (λ (b : Booked). b.headers ++ c.args.header ∷ []) c.self.view_is)
    (c.push_reserved-2.ensures.items ∙ ap (λ (b : Booked). b.alhs ++ c.args.digest ∷ []) c.self.view_is))
