-- Lists without a bound: what `separated` reads where it says how often it may turn.
use Rattle.std.specs.Prelude.{◌≡◌, if◌then◌else◌, [], ◌∷◌}
use Rattle.im_sqlparse.specs.declared.kinds.Kind.{Kind}
use Rattle.im_sqlparse.specs.Input.{Input, Reader, ◌>>=◌, ◌<$>◌, pure, eat, separated}

-- `item {mark item}`: one, and where the mark comes behind it, a list again, however long it is
abbrev pub IsWholeList : {A : Type 0} → Kind → Reader A → Type 0
IsWholeList mark item = (i : Input) → separated mark item i ≡ (do
  x ← item
  more ← eat mark
  if more then (λ xs. x ∷ xs) <$> separated mark item else pure (x ∷ [])) i
