-- What was judged of a message, and what is known once it is put in.
use Rattle.std.proofs.Common.{◌≡◌, ℕ, List, [], Option, Some, None, Err, refl, sym, subst}
use Rattle.im_digest.specs.Digests.{Hash}
use Rattle.im_mtree.specs.Checks.{first_fail}
use Rattle.im_wire.specs.Fits.{IsMessage}
use Rattle.im_wire.specs.declared.messages.Message.{Message}
use Rattle.im_client.specs.LineChecks.{line_checks}
use Rattle.im_client.specs.declared.faults.LineFault.{LineFault}
use Rattle.im_facts.specs.Accepted.{IsAccepted}
use Rattle.im_facts.specs.Folds.{IsForkedBy, known_behind}
use Rattle.im_facts.specs.Facts.{Known, with_message}
use Rattle.im_facts.specs.Judging.{Adds, AreNews, IsAdded, IsJudged}
use Rattle.im_facts.specs.Keeping.{known_of, AreOf, IsLed, Kept, Knows}
use Rattle.im_facts.specs.Verdicts.{shown_of}
use Rattle.im_facts.specs.declared.copies.Copies.{Copies}
use Rattle.im_facts.specs.declared.judged.Judged.{Judged}
use Rattle.im_facts.specs.declared.taken.Shown.{Shown}
use Rattle.im_facts.specs.declared.taken.Taken.TheVariants as took
use Rattle.im_facts.proofs.KeepLemmas.{new-kept, old-stays}
use Rattle.im_facts.proofs.NoteLemmas.{knows-of, put-led}

-- it is refused
pub judged-refused : (hash : Hash) (known : Known) (m : Message) (fault : LineFault) → first_fail (line_checks hash known.state m) ≡ Err fault
    → IsJudged hash known m (record { taken = took.Refused fault; copies = None })
judged-refused hash known m fault e = record { taken = e; adds = refl }

-- it is forked
pub judged-forked : (hash : Hash) (known : Known) (m : Message) (x y : List ℕ) → IsForkedBy hash known m x y
    → IsJudged hash known m (record { taken = took.Forked x y; copies = None })
judged-forked hash known m x y is = record { taken = is; adds = refl }

-- what is new doesn't hang on the messages
pub news-any : (kept : Kept) (messages : List Message) (m : Message) (copies : Option Copies) → AreNews (known_of kept []) m copies → AreNews (known_of kept messages) m copies
news-any kept messages m None news = news
news-any kept messages m (Some copies) news = news

-- it is accepted
pub judged-accepted : (hash : Hash) (known : Known) (m : Message) (shown : Shown) (copies : Option Copies) → IsAccepted hash known m → shown ≡ shown_of m → AreNews known m copies
    → IsJudged hash known m (record { taken = took.Accepted shown; copies = copies })
judged-accepted hash known m shown None is e old = record { taken = (is, e); adds = sym (old-stays known m old) }
judged-accepted hash known m shown (Some copies) is e news = record {
  taken = (is, e);
  adds = record { accepted = is; behind = sym (new-kept known m news.0); are = news.1 };
}

-- nothing is put in
pub end-stays : (hash : Hash) (kept : Kept) (messages : List Message) (m : Message) (judged : Judged) → judged.copies ≡ None → AreOf kept.notes messages
    → IsJudged hash (known_of kept messages) m judged → Knows kept (known_behind (known_of kept messages) m judged.taken)
end-stays hash kept messages m judged none are is =
    let same : known_behind (known_of kept messages) m judged.taken ≡ known_of kept messages =
    subst (λ (o : Option Copies). Adds hash (known_of kept messages) m judged.taken o) none is.adds in
    subst (λ (k : Known). Knows kept k) (sym same) (knows-of kept messages are)

-- these copies are
pub end-adds : (hash : Hash) (known : Known) (m : Message) (judged : Judged) (copies : Copies) → judged.copies ≡ Some copies → IsJudged hash known m judged → IsAdded hash known m judged.taken copies
end-adds hash known m judged copies some is = subst (λ (o : Option Copies). Adds hash known m judged.taken o) some is.adds

pub end-puts : (hash : Hash) (next : Kept) (known : Known) (m : Message) (judged : Judged) (copies : Copies) → judged.copies ≡ Some copies → IsJudged hash known m judged
    → Knows next (with_message known m) → Knows next (known_behind known m judged.taken)
end-puts hash next known m judged copies some is behind = subst (λ (k : Known). Knows next k) (sym (end-adds hash known m judged copies some is).behind) behind

pub end-led : (hash : Hash) (kept next : Kept) (messages : List Message) (m : Message) (judged : Judged) (copies : Copies) → judged.copies ≡ Some copies → IsLed hash kept → AreOf kept.notes messages
    → IsMessage m → IsJudged hash (known_of kept messages) m judged → Knows next (with_message (known_of kept messages) m) → IsLed hash next
end-led hash kept next messages m judged copies some led are fits is behind =
    put-led hash kept next (known_of kept messages) m led (knows-of kept messages are) fits (end-adds hash (known_of kept messages) m judged copies some is).accepted behind
