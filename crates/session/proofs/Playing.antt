-- A script, played line by line.
use Rattle.std.proofs.Common.{◌≡◌, ℕ, ◌+◌, ◌<◌, min, true, false, List, [], ◌∷◌, ◌++◌, length, is_some, IfOk, Some, None, Ok, Err, Option, Result, sym, refl, ap, ◌∙◌, subst, append_assoc, append-nil}
use Rattle.std.proofs.lemmas.Bool.{false≢true, true≢false}
use Rattle.queues.specs.Queue.{Held}
use Rattle.queues.specs.Memory.{limit_of}
use Rattle.script.specs.declared.request.Making.{Making}
use Rattle.session.specs.declared.session.Outcome.{Outcome}
use Rattle.session.specs.declared.session.Session.{Session}
use Rattle.session.specs.Replays.{Prints, Stage, Leads, PlayedOver, stage}
use Rattle.session.specs.Sessions.{Plays, after_making, fresh, kind_letter, making_of}
use Rattle.session.specs.Texts.{outcome_text}

pub leads_none : (a : Stage) → Leads a a
leads_none a more on = (more, on, refl)

pub leads_on : (a b c : Stage) → Leads a b → Leads b c → Leads a c
leads_on a b c first second more on =
    let back = second more on in
    let start = first back.0 back.1 in
    (start.0, start.1, start.2 ∙ back.2)

-- one line
pub leads_line : (s t : Session) (q r : Held ℕ) (n : ℕ) (ls after : List (List ℕ)) (line text printed printed' : List ℕ) (o : Outcome) (m : Option Making) → ls ≡ line ∷ after → Plays s q line o t r → m ≡ making_of o → text ≡ outcome_text (n + 1) o → printed' ≡ printed ++ text → Leads (stage s q n ls printed) (stage t (after_making m r) (n + 1) after printed')
leads_line s t q r n ls after line text printed printed' o m cut plays makes is put more on =
    let here : Prints s q (n + 1) (line ∷ after) (outcome_text (n + 1) o ++ more) = (o, t, r, more, plays, subst (λ k. Prints t (after_making k r) (n + 1 + 1) after more) makes on, refl) in (
      outcome_text (n + 1) o ++ more,
      subst (λ l. Prints s q (n + 1) l (outcome_text (n + 1) o ++ more)) (sym cut) here,
      sym (append_assoc printed (outcome_text (n + 1) o) more) ∙ ap (λ l. l ++ more) (sym (put ∙ ap (λ l. printed ++ l) is)),
    )

-- one line more, of which k were played before
pub turn : (a : Stage) (s t : Session) (q r : Held ℕ) (n k n' : ℕ) (ls after : List (List ℕ)) (line text printed printed' : List ℕ) (o : Outcome) (m : Option Making) → Leads a (stage s q n ls printed) → ls ≡ line ∷ after → k ≡ n → n' ≡ n + 1 → Plays s q line o t r → m ≡ making_of o → text ≡ outcome_text (k + 1) o → printed' ≡ printed ++ text → Leads a (stage t (after_making m r) n' after printed')
turn a s t q r n k n' ls after line text printed printed' o m sofar cut here next plays makes is put =
    leads_on a (stage s q n ls printed) (stage t (after_making m r) n' after printed') sofar (subst (λ i. Leads (stage s q n ls printed) (stage t (after_making m r) i after printed')) (sym next)
    (leads_line s t q r n ls after line text printed printed' o m cut plays makes (is ∙ ap (λ i. outcome_text (i + 1) o) here) put))

-- the line makes a queue, or the one in hand stays
pub makes_one : (a : Stage) (s : Session) (q : Held ℕ) (n : ℕ) (ls : List (List ℕ)) (printed : List ℕ) (o : Option Making) → is_some o ≡ true → Leads a (stage s (after_making o q) n ls printed) → length ls < length a.left → PlayedOver a (stage s q n ls printed) o
makes_one a s q n ls printed None is leads fewer = absurd (false≢true is)
makes_one a s q n ls printed (Some m) is leads fewer = (leads, fewer)

pub makes_none : (a : Stage) (s : Session) (q : Held ℕ) (n : ℕ) (ls : List (List ℕ)) (printed : List ℕ) (o : Option Making) → is_some o ≡ false → Leads a (stage s (after_making o q) n ls printed) → Leads a (stage s q n ls printed)
makes_none a s q n ls printed None is leads = leads
makes_none a s q n ls printed (Some m) is leads = absurd (true≢false is)

-- a new queue, as its making says
pub fresh_is : (memory : List ℕ) (m : Making) (letter : ℕ) → length memory ≡ m.length → kind_letter m.kind ≡ letter → record { items = []; limit = limit_of memory; letter = letter } ≡ fresh m
fresh_is memory m letter long kind i = record { items = []; limit = min (long i) 1048576; letter = sym kind i }

-- a queue as its making says, over which lines are played
pub over_new : {E : Type 0} (r : Result (Option Making) E) (p q : Held ℕ) (m : Making) (from to : Held ℕ → Stage) → p ≡ fresh m → IfOk r (PlayedOver (from p) (to q)) → IfOk r (λ next. (q' : Held ℕ) × PlayedOver (from (fresh m)) (to q') next)
over_new (Ok next) p q m from to new h = (q, subst (λ x. PlayedOver (from x) (to q) next) new h)
over_new (Err e) p q m from to new h = tt

-- the whole script is played, from nothing printed on
pub played : (s : Session) (q : Held ℕ) (ls : List (List ℕ)) (b : Stage) → Leads (stage s q 0 ls []) b → b.left ≡ [] → Prints s q 1 ls b.printed
played s q ls b leads none =
    let all = leads [] (subst (λ l. Prints b.session b.queue (b.number + 1) l []) (sym none) refl) in
    subst (Prints s q 1 ls) (all.2 ∙ append-nil b.printed) all.1
