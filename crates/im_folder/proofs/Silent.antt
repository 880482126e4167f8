-- What is said of an answer where a disk tells nothing.
use Rattle.std.specs.Prelude.{Result, Ok, Err, OnOk, IfOk}

pub on_ok : {T E P : Type 0} (result : Result T E) → P → OnOk result P
on_ok (Ok x) h = h
on_ok (Err e) h = tt

pub if_ok : {T E : Type 0} (P : T → Type 0) (result : Result T E) → ((x : T) → P x) → IfOk result P
if_ok P (Ok x) h = h x
if_ok P (Err e) h = tt
