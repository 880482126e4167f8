use Rattle.std.proofs.Common.{◌≡◌, ◌+◌, ◌<◌, ◌++◌, ◌∷◌, [], ℕ, List, length, filter, map, take, get_or, sym, ap, ◌∙◌}
use Rattle.std.proofs.lemmas.List.{take_more, take_all, map-append}
use Rattle.std.proofs.lemmas.List.Elements.{filter-append}
use Rattle.im_sqlmodel.specs.Writes.{is_guarded}
use Rattle.im_sqlmodel.specs.declared.written.Written.{Written}
use Rattle.im_sql.proofs.placing.guarded.Goals as goal

-- the keys of these that are guarded
abbrev keys_of : List Written → List (List ℕ)
keys_of ws = filter is_guarded (map (λ (w : Written). w.key) ws)

guarded-more : (ws : List Written) (i : ℕ) (w : Written) → i < length ws → w ≡ get_or ws i w →
    keys_of (take i ws) ++ filter is_guarded (w.key ∷ []) ≡ keys_of (take (i + 1) ws)
guarded-more ws i w low is =
    sym (ap keys_of (take_more ws i w low ∙ ap (λ (v : Written). take i ws ++ v ∷ []) (sym is))
    ∙ ap (filter is_guarded) (map-append (λ (v : Written). v.key) (take i ws) (w ∷ []))
    ∙ filter-append is_guarded (map (λ (v : Written). v.key) (take i ws)) (w.key ∷ []))

pub loop-one-preserved : goal.loop-one-preserved
loop-one-preserved c =
    c.in_ok-push_guarded.ensures
    ∙ ap (λ (keys : List (List ℕ)). keys ++ filter is_guarded (c.one-item.result.key ∷ [])) c.loop-one.invariant
    ∙ ap (λ (keys : List (List ℕ)). c.args.next ∷ keys) (guarded-more c.args.written.now c.loop-one.one-index c.one-item.result c.loop-one-test.true c.one-item.is)

pub returns : goal.returns
returns c = c.loop-one.invariant ∙ ap (λ (ws : List Written). c.args.next ∷ keys_of ws) (take_all c.loop-one.one-index c.args.written.now c.loop-one-test.false)
