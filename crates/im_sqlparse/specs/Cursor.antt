-- What a cursor over tokens shows, and what it keeps ready.
use Rattle.std.specs.Prelude.{◌≡◌, ◌≤◌, length}
use Rattle.im_sqlparse.specs.declared.tokens.Tokens.TheInside.{Inside}
use Rattle.im_sqlparse.specs.Lex.{token, skip}
use Rattle.im_sqlparse.specs.Input.{Input}

abbrev pub input_of : Inside → Input
input_of t = record { whole = t.whole; text = t.text.now }

abbrev pub IsReady : Inside → Type 0
IsReady t =
    (t.ahead.now ≡ skip t.text.now) × (t.token ≡ token t.ahead.now) × (t.token.1 ≤ length t.ahead.now) × (length t.ahead.now ≤ t.whole)
