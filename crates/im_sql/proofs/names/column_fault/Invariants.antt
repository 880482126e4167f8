use Rattle.std.proofs.Common.{◌≡◌, map, find, not, bytes_eq, drop}
use Rattle.std.specs.List.{list_any}
use Rattle.im_sql.proofs.names.column_fault.Given as goal

-- each so far is a column's
abbrev pub invariant-loop-name : goal.invariant-loop-name
invariant-loop-name l =
    find (λ name. not (list_any (bytes_eq name) (map (λ n. n.now) l.columns))) (map (λ n. n.now) (drop l.name-index l.names))
    ≡ find (λ name. not (list_any (bytes_eq name) (map (λ n. n.now) l.columns))) (map (λ n. n.now) l.names)
