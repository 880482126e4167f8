use Rattle.std.proofs.Common.{◌≡◌, ◌∙◌, ℕ, List, Some, ap, arith, inl, inr, map, refl, subst, sym}
use Rattle.std.specs.String.{string_bytes}
use Rattle.im_disk.proofs.Growing.{grows_none}
use Rattle.im_words.proofs.FormLemmas.{form_asks_so, show_asks, verify_asks}
use Rattle.im_words.proofs.GenLemmas.{gen_asks_so}
use Rattle.im_words.specs.Command.{AreWordsRefused}
use Rattle.im_words.specs.Meaning.{AsksGen, AsksRun, AsksShow, AsksVerify}
use Rattle.im_status.specs.Statuses.{EndsGenerated, EndsShow, EndsVerify}
use Rattle.im_status.specs.declared.status.Status.{Status}
use Rattle.im_status.specs.declared.status.Status.TheVariants as the
use Rattle.im_status.proofs.FateLemmas.{ends-other}
use Rattle.im_app.specs.Generated.{WritesGenerated, WritesGeneratedPart}
use Rattle.im_app.proofs.RunLemmas.{alone-same, same-found, takes-none, usage-found}
use Rattle.im_app.proofs.top.top.Goals as goal

pub returns-in-Ok-Run-clause-form : goal.returns-in-Ok-Run-clause-form
returns-in-Ok-Run-clause-form g c = λ logs link form.
    (c.run.ensures.never, form_asks_so (map string_bytes c.args.words.now) logs link form)

pub returns-in-Err-Usage-clause-form : goal.returns-in-Err-Usage-clause-form
returns-in-Err-Usage-clause-form g c = λ logs link form.
    let is = c.in-Err-Usage.is in
    let usage = c.in-Err-Usage.field-0-is in
    let none : ⊥ = elim (c.read_words.ensures.taken logs link form) [
      | inl done ↦ (let e = sym done ∙ is in cc)
      | inr memory ↦ (let e = sym memory ∙ is in cc)
    ] in
    absurd none

pub returns-in-Err-Memory-clause-form : goal.returns-in-Err-Memory-clause-form
returns-in-Err-Memory-clause-form g c = λ logs link form.
    (λ usage. cc, form_asks_so (map string_bytes c.args.words.now) logs link form)

pub returns-in-Err-Memory-clause-verify_form : goal.returns-in-Err-Memory-clause-verify_form
returns-in-Err-Memory-clause-verify_form g c = λ form.
    (λ usage. cc, verify_asks (map string_bytes c.args.words.now) form)

pub returns-in-Err-Memory-clause-show_form : goal.returns-in-Err-Memory-clause-show_form
returns-in-Err-Memory-clause-show_form g c = λ form.
    (λ usage. cc, show_asks (map string_bytes c.args.words.now) form)

pub returns-in-Ok-Run-clause-gen_form : goal.returns-in-Ok-Run-clause-gen_form
returns-in-Ok-Run-clause-gen_form g c = λ n form.
    (c.run.ensures.never, gen_asks_so (map string_bytes c.args.words.now) n form)

pub returns-in-Err-Usage-clause-gen_form : goal.returns-in-Err-Usage-clause-gen_form
returns-in-Err-Usage-clause-gen_form g c = λ n form.
    let is = c.in-Err-Usage.is in
    let usage = c.in-Err-Usage.field-0-is in
    let none : ⊥ = elim (c.read_words.ensures.taken_gen n form) [
      | inl done ↦ (let e = sym done ∙ is in cc)
      | inr memory ↦ (let e = sym memory ∙ is in cc)
    ] in
    absurd none

pub returns-in-Err-Memory-clause-gen_form : goal.returns-in-Err-Memory-clause-gen_form
returns-in-Err-Memory-clause-gen_form g c = λ n form.
    (λ usage. cc, gen_asks_so (map string_bytes c.args.words.now) n form)

pub returns-in-Err-Usage-clause-grows : goal.returns-in-Err-Usage-clause-grows
returns-in-Err-Usage-clause-grows g c = grows_none (g.D.Disk.told c.args.disk)

pub returns-in-Err-Memory-clause-grows : goal.returns-in-Err-Memory-clause-grows
returns-in-Err-Memory-clause-grows g c = grows_none (g.D.Disk.told c.args.disk)

pub returns-in-Err-Usage-clause-taken : goal.returns-in-Err-Usage-clause-taken
returns-in-Err-Usage-clause-taken g c = takes-none 67112960 (g.S.Source.left c.args.source.now)

pub returns-in-Err-Memory-clause-taken : goal.returns-in-Err-Memory-clause-taken
returns-in-Err-Memory-clause-taken g c = takes-none 67112960 (g.S.Source.left c.args.source.now)

pub returns-in-Err-Usage-clause-front : goal.returns-in-Err-Usage-clause-front
returns-in-Err-Usage-clause-front g c = λ why asks e.
    inl (refl, (refl, usage-found (g.H.Hash32.digest c.args.hash.now) why (g.D.Disk.told c.args.disk) e))

pub returns-in-Err-Memory-clause-front : goal.returns-in-Err-Memory-clause-front
returns-in-Err-Memory-clause-front g c = λ why asks e.
    inl (refl, (refl, same-found (g.H.Hash32.digest c.args.hash.now) why (g.D.Disk.told c.args.disk) (sym e)))

pub returns-in-Err-Memory-clause-disk_alone : goal.returns-in-Err-Memory-clause-disk_alone
returns-in-Err-Memory-clause-disk_alone g c = λ asks want. alone-same (g.S.Source.left c.args.source.now) (g.D.Disk.faults c.args.disk)

-- words that were read as those of a run ask for one
pub returns-in-Ok-Run-clause-disk_count : goal.returns-in-Ok-Run-clause-disk_count
returns-in-Ok-Run-clause-disk_count g c = λ fault want.
    let asks : AsksRun (map string_bytes c.args.words.now) = (c.in-Ok-Run.logs, c.in-Ok-Run.link, c.in-Ok-Run.ensures.asked ∙ ap Some c.in-Ok-Run.field-0-is) in
    c.run.ensures.disk_count fault (want asks)

-- a run that wasn't begun
pub returns-in-Ok-Run-clause-nothing : goal.returns-in-Ok-Run-clause-nothing
returns-in-Ok-Run-clause-nothing g c = λ asks how.
    let ran = c.run.ensures in
    elim how [
      | inl unread ↦ (ran.nothing unread.0 unread.1).0
      | inr (inl damaged) ↦ (ran.unread damaged.0 damaged.1).0
      | inr (inr unkept) ↦ (ran.not_kept unkept.0 unkept.1).1
    ]

pub returns-in-Ok-Run-clause-idle : goal.returns-in-Ok-Run-clause-idle
returns-in-Ok-Run-clause-idle g c = λ how.
    let ran = c.run.ensures in
    let asks : AsksRun (map string_bytes c.args.words.now) = (c.in-Ok-Run.logs, c.in-Ok-Run.link, c.in-Ok-Run.ensures.asked ∙ ap Some c.in-Ok-Run.field-0-is) in
    elim how [
      | inl other ↦ absurd (let both = sym other ∙ asks.2 in cc)
      | inr (inl unread) ↦ (ran.nothing unread.0 unread.1).1.0
      | inr (inr (inl damaged)) ↦ (ran.unread damaged.0 damaged.1).1
      | inr (inr (inr unkept)) ↦ (ran.not_kept unkept.0 unkept.1).2
    ]

-- the words ask for `verify`: neither the disk nor the clock is touched
pub returns-in-Ok-Verify : goal.returns-in-Ok-Verify
returns-in-Ok-Verify g c =
    let words : List (List ℕ) = map string_bytes c.args.words.now in
    let asked : AsksVerify words = c.in-Ok-Verify.ensures.asked ∙ ap Some c.in-Ok-Verify.field-0-is in
    let ran = c.verdict-status.ensures in
    let status : Status = c.verdict-status.result in
    let other : (x : Status) → status ≡ x → (EndsVerify x → ⊥) → ⊥ = λ x e none. ends-other EndsVerify status x ran.ends e none in
    let no-run : AsksRun words → ⊥ = λ asks. (let both = sym asked ∙ asks.2 in cc) in
    let taken : AreWordsRefused words → ⊥ = λ no. elim (c.read_words.ensures.usage no) [
      | inl e ↦ (let both = sym e ∙ c.in-Ok-Verify.is in cc)
      | inr e ↦ (let both = sym e ∙ c.in-Ok-Verify.is in cc)
    ] in
    let no-show : AsksShow words → ⊥ = λ asks. (let both = sym asked ∙ asks in cc) in
    let no-gen : AsksGen words → ⊥ = λ asks. (let both = sym asked ∙ asks.1 in cc) in
    record {
      report = λ asks e. absurd (no-run asks);
      part = λ asks e. absurd (no-run asks);
      front = λ why asks e. absurd (no-run asks);
      given = λ asks ends. absurd (no-run asks);
      unread = λ asks. absurd (no-run asks);
      nothing = λ asks how. absurd (no-run asks);
      not_kept = λ tx e. absurd (other (the.SqlKept tx) e (λ x. x));
      any_moment = λ t found told stands. inl told;
      unharmed = λ t told none. inl told;
      damaged = λ damage e. absurd (other (the.Damaged damage) e (λ x. x));
      sound = λ damage t found told stands e. other (the.Damaged damage) e (λ x. x);
      grows = grows_none (g.D.Disk.told c.args.disk);
      script = λ k e. absurd (other (the.Script k) e (λ x. x));
      accepted = λ asks e. ran.accepted e;
      some_refused = λ asks e. ran.refused e;
      some_forked = λ asks e. ran.forked e;
      into = λ asks e. ran.into e;
      off = λ asks e. ran.off e;
      fault = λ asks e. ran.fault e;
      too_long = λ asks. ran.too_long;
      no_verdict = λ asks how. ran.nothing how;
      verify_idle = λ asks how. ran.idle how;
      shows = λ asks e. absurd (no-show asks);
      shows_part = λ asks e. absurd (no-show asks);
      shows_nothing = λ asks how. absurd (no-show asks);
      show_keeps = λ asks. absurd (no-show asks);
      show_idle = λ asks. absurd (no-show asks);
      generated = λ asks e. absurd (no-gen asks);
      generated_part = λ asks e. absurd (no-gen asks);
      generated_nothing = λ asks e. absurd (no-gen asks);
      generated_idle = λ asks. absurd (no-gen asks);
      kept = ran.kept;
      emptied = λ asks how. ran.emptied how;
      long = ran.long;
      taken = ran.taken;
      usage = λ e. absurd (ran.never e);
      form = λ logs link form. (ran.never, form_asks_so words logs link form);
      verify_form = λ form. (ran.never, asked);
      show_form = λ form. (ran.never, show_asks words form);
      gen_form = λ n form. (ran.never, gen_asks_so words n form);
      refused = λ no. absurd (taken no);
      untouched = λ no. absurd (taken no);
      asked = λ usage memory. inr (inl asked);
      ends_run = λ asks. absurd (no-run asks);
      ends_verify = λ asks. ran.ends;
      ends_show = λ asks. absurd (no-show asks);
      ends_gen = λ asks. absurd (no-gen asks);
      read = ran.read;
      write = ran.write;
      device = λ e. absurd (other the.DiskFault e (λ x. x));
      keep = ran.keep;
      source_count = ran.source_count;
      sink_count = λ none run. ran.sink_count none;
      disk_count = λ none run. refl;
      disk_alone = λ asks want. absurd (no-run asks);
      keeper_count = ran.keeper_count;
      source_once = ran.source_once;
      sink_once = ran.sink_once;
      keeper_once = ran.keeper_once;
      complete = λ words asks read write device. absurd (no-run asks);
      verdict = λ words asks read write keep. ran.fate read write keep;
      show = λ words asks write keep. absurd (no-show asks);
      disk = λ how. refl;
      keeper = λ asks. absurd (no-run asks);
      clock = refl;
      idle = λ how. refl;
    }

-- they ask for `show`: nor is the source
pub returns-in-Ok-Show : goal.returns-in-Ok-Show
returns-in-Ok-Show g c =
    let words : List (List ℕ) = map string_bytes c.args.words.now in
    let asked : AsksShow words = c.in-Ok-Show.ensures.asked ∙ ap Some c.in-Ok-Show.field-0-is in
    let ran = c.shown-status.ensures in
    let status : Status = c.shown-status.result in
    let other : (x : Status) → status ≡ x → (EndsShow x → ⊥) → ⊥ = λ x e none. ends-other EndsShow status x ran.ends e none in
    let no-run : AsksRun words → ⊥ = λ asks. (let both = sym asked ∙ asks.2 in cc) in
    let taken : AreWordsRefused words → ⊥ = λ no. elim (c.read_words.ensures.usage no) [
      | inl e ↦ (let both = sym e ∙ c.in-Ok-Show.is in cc)
      | inr e ↦ (let both = sym e ∙ c.in-Ok-Show.is in cc)
    ] in
    let no-verify : AsksVerify words → ⊥ = λ asks. (let both = sym asked ∙ asks in cc) in
    let no-gen : AsksGen words → ⊥ = λ asks. (let both = sym asked ∙ asks.1 in cc) in
    record {
      report = λ asks e. absurd (no-run asks);
      part = λ asks e. absurd (no-run asks);
      front = λ why asks e. absurd (no-run asks);
      given = λ asks ends. absurd (no-run asks);
      unread = λ asks. absurd (no-run asks);
      nothing = λ asks how. absurd (no-run asks);
      not_kept = λ tx e. absurd (other (the.SqlKept tx) e (λ x. x));
      any_moment = λ t found told stands. inl told;
      unharmed = λ t told none. inl told;
      damaged = λ damage e. absurd (other (the.Damaged damage) e (λ x. x));
      sound = λ damage t found told stands e. other (the.Damaged damage) e (λ x. x);
      grows = grows_none (g.D.Disk.told c.args.disk);
      script = λ k e. absurd (other (the.Script k) e (λ x. x));
      accepted = λ asks e. absurd (no-verify asks);
      some_refused = λ asks e. absurd (no-verify asks);
      some_forked = λ asks e. absurd (no-verify asks);
      into = λ asks e. absurd (no-verify asks);
      off = λ asks e. absurd (no-verify asks);
      fault = λ asks e. absurd (no-verify asks);
      too_long = λ asks. absurd (no-verify asks);
      no_verdict = λ asks how. absurd (no-verify asks);
      verify_idle = λ asks how. absurd (no-verify asks);
      shows = λ asks e. ran.ok e;
      shows_part = λ asks e. ran.part e;
      shows_nothing = λ asks how. ran.nothing how;
      show_keeps = λ asks. ran.kept;
      show_idle = λ asks. (refl, (refl, refl));
      generated = λ asks e. absurd (no-gen asks);
      generated_part = λ asks e. absurd (no-gen asks);
      generated_nothing = λ asks e. absurd (no-gen asks);
      generated_idle = λ asks. absurd (no-gen asks);
      kept = ran.stops;
      emptied = λ asks how. absurd (elim asks [ inl run ↦ no-run run | inr verify ↦ no-verify verify ]);
      long = λ e. absurd (other the.Long e (λ x. x));
      taken = takes-none 67112960 (g.S.Source.left c.args.source.now);
      usage = λ e. absurd (ran.never e);
      form = λ logs link form. (ran.never, form_asks_so words logs link form);
      verify_form = λ form. (ran.never, verify_asks words form);
      show_form = λ form. (ran.never, asked);
      gen_form = λ n form. (ran.never, gen_asks_so words n form);
      refused = λ no. absurd (taken no);
      untouched = λ no. absurd (taken no);
      asked = λ usage memory. inr (inr (inl asked));
      ends_run = λ asks. absurd (no-run asks);
      ends_verify = λ asks. absurd (no-verify asks);
      ends_show = λ asks. ran.ends;
      ends_gen = λ asks. absurd (no-gen asks);
      read = λ e. absurd (other the.ReadFault e (λ x. x));
      write = ran.write;
      device = λ e. absurd (other the.DiskFault e (λ x. x));
      keep = ran.keep;
      source_count = λ none. refl;
      sink_count = λ none run. ran.sink_count none;
      disk_count = λ none run. refl;
      disk_alone = λ asks want. absurd (no-run asks);
      keeper_count = ran.keeper_count;
      source_once = omega arith;
      sink_once = ran.sink_once;
      keeper_once = ran.keeper_once;
      complete = λ words asks read write device. absurd (no-run asks);
      verdict = λ words asks read write keep. absurd (no-verify asks);
      show = λ words asks write keep. ran.fate write keep;
      disk = λ how. refl;
      keeper = λ asks. absurd (no-run asks);
      clock = refl;
      idle = λ how. refl;
    }

-- they ask for a generated script: nor is the keeper
pub returns-in-Ok-Gen : goal.returns-in-Ok-Gen
returns-in-Ok-Gen g c =
    let words : List (List ℕ) = map string_bytes c.args.words.now in
    let asked = c.in-Ok-Gen.ensures.asked ∙ ap Some c.in-Ok-Gen.field-0-is in
    let ran = c.generate-status.ensures in
    let status : Status = c.generate-status.result in
    let other : (x : Status) → status ≡ x → (EndsGenerated x → ⊥) → ⊥ = λ x e none. ends-other EndsGenerated status x ran.ends e none in
    let no-run : AsksRun words → ⊥ = λ asks. (let both = sym asked ∙ asks.2 in cc) in
    let taken : AreWordsRefused words → ⊥ = λ no. elim (c.read_words.ensures.usage no) [
      | inl e ↦ (let both = sym e ∙ c.in-Ok-Gen.is in cc)
      | inr e ↦ (let both = sym e ∙ c.in-Ok-Gen.is in cc)
    ] in
    let no-verify : AsksVerify words → ⊥ = λ asks. (let both = sym asked ∙ asks in cc) in
    let no-show : AsksShow words → ⊥ = λ asks. (let both = sym asked ∙ asks in cc) in
    let lines : (asks : AsksGen words) → c.from.result ≡ asks.0 = λ asks. (let from = c.from.ensures in let both = sym asked ∙ asks.1 in cc) in
    record {
      report = λ asks e. absurd (no-run asks);
      part = λ asks e. absurd (no-run asks);
      front = λ why asks e. absurd (no-run asks);
      given = λ asks ends. absurd (no-run asks);
      unread = λ asks. absurd (no-run asks);
      nothing = λ asks how. absurd (no-run asks);
      not_kept = λ tx e. absurd (other (the.SqlKept tx) e (λ x. x));
      any_moment = λ t found told stands. inl told;
      unharmed = λ t told none. inl told;
      damaged = λ damage e. absurd (other (the.Damaged damage) e (λ x. x));
      sound = λ damage t found told stands e. other (the.Damaged damage) e (λ x. x);
      grows = grows_none (g.D.Disk.told c.args.disk);
      script = λ k e. absurd (other (the.Script k) e (λ x. x));
      accepted = λ asks e. absurd (no-verify asks);
      some_refused = λ asks e. absurd (no-verify asks);
      some_forked = λ asks e. absurd (no-verify asks);
      into = λ asks e. absurd (no-verify asks);
      off = λ asks e. absurd (no-verify asks);
      fault = λ asks e. absurd (no-verify asks);
      too_long = λ asks. absurd (no-verify asks);
      no_verdict = λ asks how. absurd (no-verify asks);
      verify_idle = λ asks how. absurd (no-verify asks);
      shows = λ asks e. absurd (no-show asks);
      shows_part = λ asks e. absurd (no-show asks);
      shows_nothing = λ asks how. absurd (no-show asks);
      show_keeps = λ asks. absurd (no-show asks);
      show_idle = λ asks. absurd (no-show asks);
      generated = λ asks e. subst (λ n. WritesGenerated (g.H.Hash32.digest c.args.hash.now) n (g.K.Sink.written c.args.sink.now) (g.K.Sink.written c.generate-status.new.sink)) (lines asks) (ran.line e);
      generated_part = λ asks e. subst (λ n. WritesGeneratedPart (g.H.Hash32.digest c.args.hash.now) n (g.K.Sink.written c.args.sink.now) (g.K.Sink.written c.generate-status.new.sink)) (lines asks) (ran.part e);
      generated_nothing = λ asks e. ran.nothing e;
      generated_idle = λ asks. (refl, (refl, (refl, refl)));
      kept = λ k e. absurd (other (the.Kept k) e (λ x. x));
      emptied = λ asks how. absurd (elim asks [ inl run ↦ no-run run | inr verify ↦ no-verify verify ]);
      long = λ e. absurd (other the.Long e (λ x. x));
      taken = takes-none 67112960 (g.S.Source.left c.args.source.now);
      usage = λ e. absurd (ran.never e);
      form = λ logs link form. (ran.never, form_asks_so words logs link form);
      verify_form = λ form. (ran.never, verify_asks words form);
      show_form = λ form. (ran.never, show_asks words form);
      gen_form = λ n form. (ran.never, gen_asks_so words n form);
      refused = λ no. absurd (taken no);
      untouched = λ no. absurd (taken no);
      asked = λ usage memory. inr (inr (inr (c.in-Ok-Gen.lines, asked)));
      ends_run = λ asks. absurd (no-run asks);
      ends_verify = λ asks. absurd (no-verify asks);
      ends_show = λ asks. absurd (no-show asks);
      ends_gen = λ asks. ran.ends;
      read = λ e. absurd (other the.ReadFault e (λ x. x));
      write = ran.write;
      device = λ e. absurd (other the.DiskFault e (λ x. x));
      keep = λ e. absurd (other the.KeeperFault e (λ x. x));
      source_count = λ none. refl;
      sink_count = λ none run. ran.sink_count none;
      disk_count = λ none run. refl;
      disk_alone = λ asks want. absurd (no-run asks);
      keeper_count = λ none. refl;
      source_once = omega arith;
      sink_once = ran.sink_once;
      keeper_once = omega arith;
      complete = λ words asks read write device. absurd (no-run asks);
      verdict = λ words asks read write keep. absurd (no-verify asks);
      show = λ words asks write keep. absurd (no-show asks);
      disk = λ how. refl;
      keeper = λ asks. absurd (no-run asks);
      clock = refl;
      idle = λ how. refl;
    }
