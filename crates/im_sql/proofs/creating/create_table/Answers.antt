use Rattle.std.proofs.Common.{inr, ℕ, Bool, false, List, Some, None, Ok, Err, take, sym, ap, subst, ◌∙◌, if◌then◌else◌}
use Rattle.im_sqlmodel.specs.Rows.{TableIs}
use Rattle.im_sqlmodel.specs.declared.answers.SqlError.TheVariants as error
use Rattle.im_sqlmodel.specs.declared.answers.SqlOut.TheVariants as out
use Rattle.im_sqlmodel.proofs.KeptLemmas.{kept-sound}
use Rattle.im_catalog.proofs.OneLemmas.{Answer}
use Rattle.im_sql.proofs.AnswerLemmas.{create-some, create-none}
use Rattle.im_sql.proofs.creating.create_table.Goals as goal

-- the answer where the table is there
abbrev told : Bool → List ℕ → Answer
told if_not_exists name = if if_not_exists then Ok out.Nothing else Err (error.Exists name)

pub table-requires : goal.table-requires
table-requires g c = let r = c.requires.view in (r.0, r.1, r.2, kept-sound (take c.args.n r.0) r.4)

pub returns-in_default : goal.returns-in_default
returns-in_default g c = λ history stands few is kept.
    let h = take c.args.n history in
    let none = subst (λ (name : List ℕ). TableIs h name None) c.as_slice.ensures (subst (TableIs h c.as_slice.result.now) c.in_default.is (c.in_ok-there.ensures history stands few (kept-sound h kept))) in
    create-none h c.args.create.now c.create_new.result none (c.create_new.ensures history stands few is kept)

pub returns-then-create : goal.returns-then-create
returns-then-create g c = λ history stands few is kept.
    let h = take c.args.n history in
    let there = subst (λ (name : List ℕ). TableIs h name (Some c.in-Some.there)) c.as_slice.ensures (subst (TableIs h c.as_slice.result.now) c.in-Some.is (c.in_ok-there.ensures history stands few (kept-sound h kept))) in
    inr (create-some h c.args.create.now c.in-Some.there (Ok out.Nothing) there (ap (λ (b : Bool). told b c.args.create.now.table) (sym c.if-create.true)))

pub returns : goal.returns
returns g c = λ history stands few is kept.
    let h = take c.args.n history in
    let there = subst (λ (name : List ℕ). TableIs h name (Some c.in-Some.there)) c.as_slice.ensures (subst (TableIs h c.as_slice.result.now) c.in-Some.is (c.in_ok-there.ensures history stands few (kept-sound h kept))) in
    inr (create-some h c.args.create.now c.in-Some.there _ there
    (ap (λ (name : List ℕ). told false name) (c.in_ok-table.ensures ∙ c.as_slice-2.ensures) ∙ ap (λ (b : Bool). told b c.args.create.now.table) (sym c.if-create.false)))
