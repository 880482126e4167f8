-- How far the lines of a stream were taken, and one line more.
use Rattle.std.proofs.Common.{◌≡◌, ◌+◌, ◌<◌, ℕ, List, [], ◌∷◌, ◌++◌, length, take, Bool, true, false, ◌||◌, ◌==◌, Option, Some, None, Ok, Err, refl, sym, ap, subst, ◌∙◌, arith, append_assoc, append-nil, length-append}
use Rattle.std.specs.Prelude.{◌↔◌, IfOk, IsTrue, OnOk, Result}
use Rattle.std.specs.Option.{option_map}
use Rattle.std.specs.Io.KnownBytes.{Appends}
use Rattle.std.proofs.KnownBytes.{Appends-nil, Appends-trans}
use Rattle.std.proofs.Math.Seq.{take-append_seam}
use Rattle.std.proofs.lemmas.Bool.{both_ways, eqb-true}
use Rattle.std.proofs.lemmas.List.Elements.{All-nil, All-push}
use Rattle.std.proofs.lemmas.List.Quantifiers.{Any-push}
use Rattle.std.proofs.lemmas.List.{get_or_append_left}
use Rattle.im_digest.specs.Digests.{Hash, GivesDigests}
use Rattle.im_text.specs.Lines.{AreTexts, IsFirstText}
use Rattle.im_text.proofs.LineLemmas.{texts-exist, texts-more}
use Rattle.im_wire.specs.Texts.{text}
use Rattle.im_wire.specs.declared.messages.Message.{Message}
use Rattle.im_facts.specs.Accepted.{IsClient}
use Rattle.im_facts.specs.Facts.{Known}
use Rattle.im_facts.specs.Folds.{AreVerdicts, IsVerdict, accepted_by, known_by, known_by_all}
use Rattle.im_facts.specs.Keeping.{IsLed, Kept, Knows}
use Rattle.im_facts.specs.Texts.{taken_line, verdict_line, verdict_lines}
use Rattle.im_facts.specs.Verdicts.{Verdict, Passed, Accepted, Refused, Forked, IsForked, taken_of}
use Rattle.im_facts.specs.declared.taken.Taken.{Taken}
use Rattle.im_verify.specs.Judged.{kept_text, kept_texts, IsRefused, NoneForked, NoneRefused, SomeRefused}
use Rattle.im_verify.specs.Turns.{end_by, end_of, message_text, WritesAndKeeps, AddsPart, WrittenAndKept, EndsStream, HalfTurn, TakesAll, TakesAt, TakesInto, TakesSome, LineTurn}
use Rattle.im_verify.specs.declared.lines.LineEnd.{LineEnd}
use Rattle.im_verify.specs.declared.lines.LineEnd.TheVariants as the
use Rattle.im_verify.specs.declared.stops.Stop.{Stop}
use Rattle.im_verify.proofs.FoldLemmas.{fold-append, fold-push, lines-push, known-push, texts-push}
use Rattle.im_facts.proofs.NoteLemmas.{led-client}
use Rattle.im_verify.proofs.ForkLemmas.{all-verdicts, some-here, up-forked, up-none}

keeps-nil : (kept : Option (List (List ℕ))) → kept ≡ option_map (λ xs. xs ++ []) kept
keeps-nil None = refl
keeps-nil (Some xs) = ap Some (sym (append-nil xs))

keeps-twice : (kept : Option (List (List ℕ))) (a b : List (List ℕ)) → option_map (λ xs. xs ++ b) (option_map (λ xs. xs ++ a) kept) ≡ option_map (λ xs. xs ++ (a ++ b)) kept
keeps-twice None a b = refl
keeps-twice (Some xs) a b = ap Some (append_assoc xs a b)

-- nothing was done
pub adds-nil : (d : WrittenAndKept) → WritesAndKeeps [] [] d d
adds-nil d = record { told = Appends-nil d.written; keeps = keeps-nil d.kept }

-- one thing was done, and then another
pub adds-trans : (x y : List ℕ) (a b : List (List ℕ)) (from mid to : WrittenAndKept) → WritesAndKeeps x a from mid → WritesAndKeeps y b mid to → WritesAndKeeps (x ++ y) (a ++ b) from to
adds-trans x y a b from mid to p q = record {
  told = Appends-trans from.written mid.written to.written x y p.told q.told;
  keeps = q.keeps ∙ ap (option_map (λ (xs : List (List ℕ)). xs ++ b)) p.keeps ∙ keeps-twice from.kept a b;
}

-- which ends are whose
refused-end : (v : Verdict) → IsRefused v → end_of (taken_of v) ≡ the.Refused
refused-end Passed r = absurd r
refused-end (Accepted m) r = absurd r
refused-end (Refused fault) r = refl
refused-end (Forked x y) r = absurd r

end-refused : (v : Verdict) → end_of (taken_of v) ≡ the.Refused → IsRefused v
end-refused Passed e = absurd cc
end-refused (Accepted m) e = absurd cc
end-refused (Refused fault) e = tt
end-refused (Forked x y) e = absurd cc

forked-end : (v : Verdict) → IsForked v → end_of (taken_of v) ≡ the.Forked
forked-end Passed f = absurd f
forked-end (Accepted m) f = absurd f
forked-end (Refused fault) f = absurd f
forked-end (Forked x y) f = refl

end-forked : (v : Verdict) → end_of (taken_of v) ≡ the.Forked → IsForked v
end-forked Passed e = absurd cc
end-forked (Accepted m) e = absurd cc
end-forked (Refused fault) e = absurd cc
end-forked (Forked x y) e = tt

-- the text that is kept of a line is that of its accepted message
kept-accepted : (v : Verdict) → message_text (accepted_by v) ≡ kept_text v
kept-accepted Passed = refl
kept-accepted (Accepted m) = refl
kept-accepted (Refused fault) = refl
kept-accepted (Forked x y) = refl

accepted-is : (v : Verdict) (m : Message) → accepted_by v ≡ Some m → (next : Message) × (v ≡ Accepted next)
accepted-is Passed m e = absurd cc
accepted-is (Accepted next) m e = (next, refl)
accepted-is (Refused fault) m e = absurd cc
accepted-is (Forked x y) m e = absurd cc

-- what a client told of a line, and which message it handed out
abbrev pub Told : Hash → Known → Kept → List ℕ → Option Taken → Option Message → Type 0
Told hash known next line taken out =
    (verdict : Verdict) × IsVerdict hash known line verdict × (taken ≡ taken_of verdict) × Knows next (known_by known verdict) × (out ≡ accepted_by verdict)

-- a line was judged, told and kept, and what is known then is known by what is kept
abbrev pub TurnsTo : Hash → ℕ → List ℕ → LineEnd → Known → Kept → WrittenAndKept → WrittenAndKept → Type 0
TurnsTo hash number line end known kept from to = (next : Known) × Knows kept next × LineTurn hash number line end known next from to

-- so the text that is kept, by the answer
kept-told : (out message : Option Message) (v : Verdict) → out ≡ accepted_by v → message ≡ out → message_text message ≡ kept_text v
kept-told out message v hands lent = ap message_text (lent ∙ hands) ∙ kept-accepted v

turn-of : (hash : Hash) (number : ℕ) (line : List ℕ) (known : Known) (next : Kept) (taken : Option Taken) (out message : Option Message) (end : LineEnd) (from to : WrittenAndKept)
    → Told hash known next line taken out → message ≡ out → end ≡ end_of taken
    → WritesAndKeeps (taken_line number taken) (message_text message) from to → TurnsTo hash number line end known next from to
turn-of hash number line known next taken out message end from to (v, is, answer, knows, hands) lent e adds = (
  known_by known v,
  knows,
  record {
    verdict = v;
    is = is;
    tells = subst (λ (ts : List (List ℕ)). WritesAndKeeps (verdict_line number v) ts from to) (kept-told out message v hands lent)
        (subst (λ (t : Option Taken). WritesAndKeeps (taken_line number t) (message_text message) from to) answer adds);
    follows = refl;
    ends = e ∙ ap end_of answer;
  },
)

-- a line was taken, told and kept
pub turn-told : (hash : Hash) (number : ℕ) (line : List ℕ) (kept next : Kept) (taken : Option Taken) (out message : Option Message) (from to : WrittenAndKept) (result : Result LineEnd Stop)
    → ((known : Known) → Knows kept known → Told hash known next line taken out) → message ≡ out → IfOk result (λ end. end ≡ end_of taken)
    → OnOk result (WritesAndKeeps (taken_line number taken) (message_text message) from to)
    → IfOk result (λ end. (known : Known) → Knows kept known → TurnsTo hash number line end known next from to)
turn-told hash number line kept next taken out message from to (Ok end) told lent e adds =
    λ known knows. turn-of hash number line known next taken out message end from to (told known knows) lent e adds
turn-told hash number line kept next taken out message from to (Err stop) told lent e adds = tt

-- it was told in part
pub half-told : (hash : Hash) (number : ℕ) (line : List ℕ) (known : Known) (next : Kept) (taken : Option Taken) (out message : Option Message) (from to : WrittenAndKept)
    → Told hash known next line taken out → message ≡ out
    → AddsPart (taken_line number taken) (message_text message) from to → HalfTurn hash number line known from to
half-told hash number line known next taken out message from to (v, is, answer, knows, hands) lent adds = record {
  verdict = v;
  is = is;
  tells = subst (λ (ts : List (List ℕ)). AddsPart (verdict_line number v) ts from to) (kept-told out message v hands lent)
      (subst (λ (t : Option Taken). AddsPart (taken_line number t) (message_text message) from to) answer adds);
}

-- its message was accepted
pub accepted-told : (hash : Hash) (line : List ℕ) (known : Known) (next : Kept) (taken : Option Taken) (out message : Option Message)
    → Told hash known next line taken out → message ≡ out → (m : Message) × (message ≡ Some m) → (m : Message) × IsVerdict hash known line (Accepted m)
accepted-told hash line known next taken out message (v, is, answer, knows, hands) lent (m, some) =
    let found = accepted-is v m (sym hands ∙ sym lent ∙ some) in
    (found.0, subst (λ (w : Verdict). IsVerdict hash known line w) found.1 is)

-- the lines of a stream before its rest were judged from what is known on, none of them a fork, told and kept
pub record Progress (hash : Hash) (known : Known) (stream rest : List ℕ) (number : ℕ) (refused : Bool) (next : Known) (from to : WrittenAndKept) : Type 0 where
  pub lines : List (List ℕ)
  pub verdicts : List Verdict
  pub fold : AreVerdicts hash known lines verdicts
  pub follows : next ≡ known_by_all known verdicts
  pub count : number ≡ length verdicts
  pub behind : (more : List (List ℕ)) → AreTexts rest more → AreTexts stream (lines ++ more)
  pub adds : WritesAndKeeps (verdict_lines 1 verdicts) (kept_texts verdicts) from to
  pub accepted : refused ≡ false → NoneRefused verdicts
  pub some : refused ≡ true → SomeRefused verdicts
  pub none : NoneForked verdicts

-- before the first line
pub progress-first : (hash : Hash) (known : Known) (stream : List ℕ) (d : WrittenAndKept) → Progress hash known stream stream 0 false known d d
progress-first hash known stream d = record {
  lines = [];
  verdicts = [];
  fold = tt;
  follows = refl;
  count = refl;
  behind = λ more h. h;
  adds = adds-nil d;
  accepted = λ e. All-nil (λ (o : Verdict). IsRefused o → ⊥);
  some = λ e. absurd cc;
  none = All-nil (λ (o : Verdict). IsForked o → ⊥);
}

-- what tells the lines with the next one
told-push : (os : List Verdict) (number : ℕ) (o : Verdict) → number ≡ length os → verdict_lines 1 os ++ verdict_line (number + 1) o ≡ verdict_lines 1 (os ++ o ∷ [])
told-push os number o same =
    let n : number + 1 ≡ 1 + length os = omega arith in
    ap (λ k. verdict_lines 1 os ++ verdict_line k o) n ∙ sym (lines-push 1 os o)

-- some line is still refused
some-more : (os : List Verdict) (o : Verdict) → SomeRefused os → SomeRefused (os ++ o ∷ [])
some-more os o (k, x, within, at, is) =
    let size : length (os ++ o ∷ []) ≡ length os + 1 = length-append os (o ∷ []) in
    (k, x, omega arith, get_or_append_left os (o ∷ []) x k within ∙ at, is)

none-before : (a b : Bool) → (a || b) ≡ false → (a ≡ false) × (b ≡ false)
none-before true b e = absurd cc
none-before false b e = (refl, e)

none-push : (os : List Verdict) (o : Verdict) (a b : Bool) → (a ≡ false → NoneRefused os) → (b ≡ false → IsRefused o → ⊥) → (a || b) ≡ false → NoneRefused (os ++ o ∷ [])
none-push os o a b old new e =
    let parts = none-before a b e in
    All-push (λ (x : Verdict). IsRefused x → ⊥) os o (old parts.0) (new parts.1)

some-push : (os : List Verdict) (o : Verdict) (a b : Bool) → (a ≡ true → SomeRefused os) → (b ≡ true → IsRefused o) → (a || b) ≡ true → SomeRefused (os ++ o ∷ [])
some-push os o true b old new e = some-more os o (old refl)
some-push os o false b old new e = Any-push IsRefused os o (new e)

-- what is told and kept of the lines, and then of one more
adds-next : (os : List Verdict) (o : Verdict) (number : ℕ) (from mid to : WrittenAndKept) → number ≡ length os → WritesAndKeeps (verdict_lines 1 os) (kept_texts os) from mid
    → WritesAndKeeps (verdict_line (number + 1) o) (kept_text o) mid to → WritesAndKeeps (verdict_lines 1 (os ++ o ∷ [])) (kept_texts (os ++ o ∷ [])) from to
adds-next os o number from mid to same p q =
    let both : WritesAndKeeps (verdict_lines 1 os ++ verdict_line (number + 1) o) (kept_texts os ++ kept_text o) from to = adds-trans _ _ _ _ from mid to p q in
    subst (λ (x : List ℕ). WritesAndKeeps x (kept_texts (os ++ o ∷ [])) from to) (told-push os number o same)
    (subst (λ (a : List (List ℕ)). WritesAndKeeps (verdict_lines 1 os ++ verdict_line (number + 1) o) a from to) (sym (texts-push os o)) both)

-- one line more that isn't forked
pub progress-next : (hash : Hash) (known : Known) (stream rest line behind : List ℕ) (number : ℕ) (refused r : Bool) (end : LineEnd) (now next : Known) (from mid to : WrittenAndKept)
    → 0 < length rest → IsFirstText rest line behind → Progress hash known stream rest number refused now from mid → LineTurn hash (number + 1) line end now next mid to
    → (end ≡ the.Forked → ⊥) → (IsTrue r ↔ (end ≡ the.Refused))
    → Progress hash known stream behind (number + 1) (refused || r) next from to
progress-next hash known stream rest line behind number refused r end now next from mid to some first p t unforked is_refused =
    let is : IsVerdict hash (known_by_all known p.verdicts) line t.verdict = subst (λ (s : Known). IsVerdict hash s line t.verdict) p.follows t.is in
    let size : length (p.verdicts ++ t.verdict ∷ []) ≡ length p.verdicts + 1 = length-append p.verdicts (t.verdict ∷ []) in
    let same : number ≡ length p.verdicts = p.count in
    record {
      lines = p.lines ++ line ∷ [];
      verdicts = p.verdicts ++ t.verdict ∷ [];
      fold = fold-push hash known p.lines p.verdicts line t.verdict p.fold is;
      follows = t.follows ∙ ap (λ (s : Known). known_by s t.verdict) p.follows ∙ sym (known-push known p.verdicts t.verdict);
      count = omega arith;
      behind = λ more h. subst (λ (ls : List (List ℕ)). AreTexts stream ls) (sym (append_assoc p.lines (line ∷ []) more)) (p.behind (line ∷ more) (texts-more rest line behind more some first h));
      adds = adds-next p.verdicts t.verdict number from mid to p.count p.adds t.tells;
      accepted = none-push p.verdicts t.verdict refused r p.accepted (λ e is. both_ways r e (is_refused.1 (t.ends ∙ refused-end t.verdict is)));
      some = some-push p.verdicts t.verdict refused r p.some (λ e. end-refused t.verdict (sym t.ends ∙ is_refused.0 e));
      none = All-push (λ (o : Verdict). IsForked o → ⊥) p.verdicts t.verdict p.none (λ f. unforked (t.ends ∙ forked-end t.verdict f));
    }

-- one line more that is forked, behind which nothing is told
pub takes-fork : (hash : Hash) (known : Known) (stream rest line behind : List ℕ) (number : ℕ) (refused : Bool) (end : LineEnd) (now next : Known) (from mid to : WrittenAndKept)
    → GivesDigests hash → IsClient hash next → 0 < length rest → IsFirstText rest line behind → Progress hash known stream rest number refused now from mid
    → LineTurn hash (number + 1) line end now next mid to → end ≡ the.Forked → TakesAll hash known stream the.Forked from to
takes-fork hash known stream rest line behind number refused end now next from mid to size client some first p t e =
    let more = texts-exist behind in
    let v : Verdict = t.verdict in
    let forked : IsForked v = end-forked v (sym t.ends ∙ e) in
    let is : IsVerdict hash (known_by_all known p.verdicts) line v = subst (λ (s : Known). IsVerdict hash s line v) p.follows t.is in
    let after = all-verdicts hash size next more.0 client in
    let left : AreVerdicts hash (known_by (known_by_all known p.verdicts) v) more.0 after.0 =
    subst (λ (s : Known). AreVerdicts hash s more.0 after.0) (t.follows ∙ ap (λ (s : Known). known_by s v) p.follows) after.1 in
    record {
      texts = p.lines ++ line ∷ more.0;
      are = p.behind (line ∷ more.0) (texts-more rest line behind more.0 some first more.1);
      verdicts = p.verdicts ++ v ∷ after.0;
      fold = fold-append hash known p.lines (line ∷ more.0) p.verdicts (v ∷ after.0) p.fold (is, left);
      adds = subst (λ (vs : List Verdict). WritesAndKeeps (verdict_lines 1 vs) (kept_texts vs) from to) (sym (up-forked p.verdicts after.0 v p.none forked))
          (adds-next p.verdicts v number from mid to p.count p.adds t.tells);
      ends = some-here IsForked p.verdicts after.0 v forked;
    }

-- a value isn't an error
pub ok-no-err : {T E : Type 0} (x : T) (e : E) → Ok x ≡ Err e → ⊥
ok-no-err x e same = cc

-- octets of length 0
pub no-octets : (octets : List ℕ) → (length octets == 0) ≡ true → octets ≡ []
no-octets [] e = refl
no-octets (o ∷ octets) e = absurd (let z : length (o ∷ octets) ≡ 0 = eqb-true _ _ e in omega arith)

-- how they end then
ends-by : (refused : Bool) (vs : List Verdict) → (refused ≡ false → NoneRefused vs) → (refused ≡ true → SomeRefused vs) → NoneForked vs → EndsStream (end_by refused) vs
ends-by true vs accepted some none = (some refl, none)
ends-by false vs accepted some none = (accepted refl, none)

-- no line is left
pub takes-all : (hash : Hash) (known : Known) (stream rest : List ℕ) (number : ℕ) (refused : Bool) (next : Known) (from to : WrittenAndKept)
    → rest ≡ [] → Progress hash known stream rest number refused next from to → TakesAll hash known stream (end_by refused) from to
takes-all hash known stream rest number refused next from to none p = record {
  texts = p.lines;
  are = subst (λ (ls : List (List ℕ)). AreTexts stream ls) (append-nil p.lines) (p.behind [] none);
  verdicts = p.verdicts;
  fold = p.fold;
  adds = subst (λ (vs : List Verdict). WritesAndKeeps (verdict_lines 1 vs) (kept_texts vs) from to) (sym (up-none p.verdicts p.none)) p.adds;
  ends = ends-by refused p.verdicts p.accepted p.some p.none;
}

-- nothing was done of the next line
pub takes-some : (hash : Hash) (known : Known) (stream rest : List ℕ) (number : ℕ) (refused : Bool) (next : Known) (from mid to : WrittenAndKept)
    → to.written ≡ mid.written → to.kept ≡ mid.kept → Progress hash known stream rest number refused next from mid → TakesSome hash known stream from to
takes-some hash known stream rest number refused next from mid to written kept p =
    let more = texts-exist rest in
    record {
      texts = p.lines ++ more.0;
      are = p.behind more.0 more.1;
      count = length p.lines;
      verdicts = p.verdicts;
      fold = subst (λ (ls : List (List ℕ)). AreVerdicts hash known ls p.verdicts) (sym (take-append_seam p.lines more.0)) p.fold;
      none = p.none;
      adds = record {
        told = subst (λ (w : Option (List ℕ)). Appends from.written w (verdict_lines 1 p.verdicts)) (sym written) p.adds.told;
        keeps = kept ∙ p.adds.keeps;
      };
    }

front-and-next : (front : List (List ℕ)) (line : List ℕ) (more : List (List ℕ)) → take (length (front ++ line ∷ [])) (front ++ line ∷ more) ≡ front ++ line ∷ []
front-and-next front line more =
    ap (take (length (front ++ line ∷ []))) (sym (append_assoc front (line ∷ []) more)) ∙ take-append_seam (front ++ line ∷ []) more

-- nothing was done of the next line, which is accepted
pub takes-at : (hash : Hash) (known : Known) (stream rest line behind : List ℕ) (number : ℕ) (refused : Bool) (now : Known) (from mid to : WrittenAndKept)
    → 0 < length rest → IsFirstText rest line behind → to.written ≡ mid.written → to.kept ≡ mid.kept → Progress hash known stream rest number refused now from mid
    → (next : Message) × IsVerdict hash now line (Accepted next) → TakesAt hash known stream from to
takes-at hash known stream rest line behind number refused now from mid to some first written kept p (next, accepted) =
    let more = texts-exist behind in
    let is : IsVerdict hash (known_by_all known p.verdicts) line (Accepted next) = subst (λ (s : Known). IsVerdict hash s line (Accepted next)) p.follows accepted in
    let fold : AreVerdicts hash known (p.lines ++ line ∷ []) (p.verdicts ++ Accepted next ∷ []) = fold-push hash known p.lines p.verdicts line (Accepted next) p.fold is in
    let all : length (p.lines ++ line ∷ more.0) ≡ length p.lines + length (line ∷ more.0) = length-append p.lines (line ∷ more.0) in
    let size : length (p.lines ++ line ∷ []) ≡ length p.lines + 1 = length-append p.lines (line ∷ []) in
    let front : take (length p.lines + 1) (p.lines ++ line ∷ more.0) ≡ p.lines ++ line ∷ [] =
    ap (λ n. take n (p.lines ++ line ∷ more.0)) (sym size) ∙ front-and-next p.lines line more.0 in
    record {
      texts = p.lines ++ line ∷ more.0;
      are = p.behind (line ∷ more.0) (texts-more rest line behind more.0 some first more.1);
      count = length p.lines;
      within = omega arith;
      verdicts = p.verdicts;
      next = next;
      fold = subst (λ (ls : List (List ℕ)). AreVerdicts hash known ls (p.verdicts ++ Accepted next ∷ [])) (sym front) fold;
      none = p.none;
      adds = record {
        told = subst (λ (w : Option (List ℕ)). Appends from.written w (verdict_lines 1 p.verdicts)) (sym written) p.adds.told;
        keeps = kept ∙ p.adds.keeps;
      };
    }

-- the next line was told in part
pub takes-into : (hash : Hash) (known : Known) (stream rest line behind : List ℕ) (number : ℕ) (refused : Bool) (now : Known) (from mid to : WrittenAndKept)
    → 0 < length rest → IsFirstText rest line behind → Progress hash known stream rest number refused now from mid → HalfTurn hash (number + 1) line now mid to
    → TakesInto hash known stream from to
takes-into hash known stream rest line behind number refused now from mid to some first p t =
    let more = texts-exist behind in
    let is : IsVerdict hash (known_by_all known p.verdicts) line t.verdict = subst (λ (s : Known). IsVerdict hash s line t.verdict) p.follows t.is in
    let fold : AreVerdicts hash known (p.lines ++ line ∷ []) (p.verdicts ++ t.verdict ∷ []) = fold-push hash known p.lines p.verdicts line t.verdict p.fold is in
    let n : number + 1 ≡ length p.verdicts + 1 = ap (λ k. k + 1) p.count in
    let both : WritesAndKeeps (verdict_lines 1 p.verdicts ++ take t.tells.0 (verdict_line (number + 1) t.verdict)) (kept_texts p.verdicts ++ kept_text t.verdict) from to =
    adds-trans _ _ _ _ from mid to p.adds t.tells.2 in
    let A : List ℕ → List (List ℕ) → Type 0 = λ x a. WritesAndKeeps x a from to in
    record {
      texts = p.lines ++ line ∷ more.0;
      are = p.behind (line ∷ more.0) (texts-more rest line behind more.0 some first more.1);
      count = length (p.lines ++ line ∷ []);
      verdicts = p.verdicts;
      last = t.verdict;
      fold = subst (λ (ls : List (List ℕ)). AreVerdicts hash known ls (p.verdicts ++ t.verdict ∷ [])) (sym (front-and-next p.lines line more.0)) fold;
      part = t.tells.0;
      unfinished = subst (λ k. t.tells.0 < length (verdict_line k t.verdict)) n t.tells.1;
      none = p.none;
      adds = subst (λ k. A (verdict_lines 1 p.verdicts ++ take t.tells.0 (verdict_line k t.verdict)) (kept_texts (p.verdicts ++ t.verdict ∷ []))) n
          (subst (λ (a : List (List ℕ)). A (verdict_lines 1 p.verdicts ++ take t.tells.0 (verdict_line (number + 1) t.verdict)) a) (sym (texts-push p.verdicts t.verdict)) both);
    }

-- so far the lines of a stream were taken, whatever was known before them
abbrev pub Following : Hash → Kept → List ℕ → List ℕ → ℕ → Bool → Kept → WrittenAndKept → WrittenAndKept → Type 0
Following hash first stream rest number refused kept from to =
    (known : Known) → Knows first known → (next : Known) × Knows kept next × Progress hash known stream rest number refused next from to

-- before the first line
pub follows-first : (hash : Hash) (kept : Kept) (stream : List ℕ) (d : WrittenAndKept) → Following hash kept stream stream 0 false kept d d
follows-first hash kept stream d = λ known knows. (known, knows, progress-first hash known stream d)

-- one line more that isn't forked
pub follows-next : (hash : Hash) (first kept next : Kept) (stream rest line behind : List ℕ) (number : ℕ) (refused r : Bool) (end : LineEnd) (from mid to : WrittenAndKept)
    → 0 < length rest → IsFirstText rest line behind → Following hash first stream rest number refused kept from mid
    → ((known : Known) → Knows kept known → TurnsTo hash (number + 1) line end known next mid to)
    → (end ≡ the.Forked → ⊥) → (IsTrue r ↔ (end ≡ the.Refused))
    → Following hash first stream behind (number + 1) (refused || r) next from to
follows-next hash first kept next stream rest line behind number refused r end from mid to some text p t unforked is_refused = λ known knows.
    let now = p known knows in
    let turn = t now.0 now.1 in
    (turn.0, turn.1, progress-next hash known stream rest line behind number refused r end now.0 turn.0 from mid to some text now.2 turn.2 unforked is_refused)

-- one that is
pub follows-fork : (hash : Hash) (first kept next : Kept) (stream rest line behind : List ℕ) (number : ℕ) (refused : Bool) (end : LineEnd) (from mid to : WrittenAndKept)
    → GivesDigests hash → IsLed hash next → 0 < length rest → IsFirstText rest line behind → Following hash first stream rest number refused kept from mid
    → ((known : Known) → Knows kept known → TurnsTo hash (number + 1) line end known next mid to) → end ≡ the.Forked
    → (known : Known) → Knows first known → TakesAll hash known stream the.Forked from to
follows-fork hash first kept next stream rest line behind number refused end from mid to size led some text p t e known knows =
    let now = p known knows in
    let turn = t now.0 now.1 in
    takes-fork hash known stream rest line behind number refused end now.0 turn.0 from mid to size (led-client hash next turn.0 led turn.1) some text now.2 turn.2 e
