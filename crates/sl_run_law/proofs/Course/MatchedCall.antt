-- A course and the call of a trace that it is, as each changes.
use Rattle.sl_run_law.proofs.Course.AnsweredCalls.{Awaits}
use Rattle.sl_run_law.proofs.Course.MachineTurns.{KeepsAsking}
use Rattle.sl_run_law.specs.Course.CallStamps.{AnswersAgree, IsAnsweredAs, IsCourseOf, stamp_in}
use Rattle.sl_words.proofs.Numbers.{less_is_other}
use Rattle.sl_run.specs.EventChanges.{new_course, with_entry}
use Rattle.sl_run.specs.Worlds.{Course, Daemon, Stamp}
use Rattle.sl_run_law.proofs.CourseLists.{changed_if}
use Rattle.sl_run_law.proofs.CoursesGoOn.{told}
use Rattle.sl_time.specs.Times.{reading_of}
use Rattle.sl_trace.specs.Traces.{Answered, Submitted, answer_of, answered_in, is_ok_answer, new_call}
use Rattle.sl_trace.specs.declared.effects.Call.{Call}
use Rattle.sl_trace.specs.declared.effects.Entry.{Entry}
use Rattle.sl_trace.specs.declared.input.Answer.{Answer}
use Rattle.sl_words.proofs.CaseLaws.{no_value, none_some}
use Rattle.std.proofs.Common.{ap, arith, refl, subst, sym, ◌∙◌}
use Rattle.std.proofs.lemmas.Bool.{eq-eqb}
use Rattle.std.proofs.lemmas.Bool.Decides.{Decides-eqb}
use Rattle.std.specs.Option.{option_or}
use Rattle.std.specs.Prelude.{Bool, List, None, Option, Some, false, length, true, [], ℕ, ◌<◌, ◌==◌, ◌∷◌, ◌≡◌}

-- ---- stamps

below_by : (s : Stamp) (ss : List Stamp) (i : ℕ) (x : Stamp) (t : Bool) → (i == length ss) ≡ t → (stamp_in ss i ≡ Some x → i < length ss)
    → elim t as (λ y. Option Stamp) [ true ↦ Some s | false ↦ stamp_in ss i ] ≡ Some x → i < length (s ∷ ss)
below_by s ss i x true is rest h = let same : i ≡ length ss = (Decides-eqb i (length ss)).0 is in omega (arith, same)
below_by s ss i x false is rest h = let less : i < length ss = rest h in omega (arith, less)

pub found_below : (ss : List Stamp) (i : ℕ) (x : Stamp) → stamp_in ss i ≡ Some x → i < length ss
found_below [] i x h = absurd (none_some x h)
found_below (s ∷ ss) i x h = below_by s ss i x (i == length ss) refl (found_below ss i x) h

-- An older stamp stays.
pub stamp_stays : (s : Stamp) (ss : List Stamp) (i : ℕ) (x : Stamp) → stamp_in ss i ≡ Some x → stamp_in (s ∷ ss) i ≡ Some x
stamp_stays s ss i x h =
    ap (λ t. elim t as (λ y. Option Stamp) [ true ↦ Some s | false ↦ stamp_in ss i ]) (less_is_other i (length ss) (found_below ss i x h)) ∙ h

pub newest_stamp : (s : Stamp) (ss : List Stamp) (i : ℕ) → i ≡ length ss → stamp_in (s ∷ ss) i ≡ Some s
newest_stamp s ss i h = ap (λ t. elim t as (λ y. Option Stamp) [ true ↦ Some s | false ↦ stamp_in ss i ]) (eq-eqb i (length ss) h)

-- ---- a course changes and its call does not

not_answered : (d : Daemon) (c : Course) (a : Answered) → c.answered ≡ None → IsAnsweredAs d c a → ⊥
not_answered d c a none is = no_value is.stamp c.answered is.answered none

agree_stays : (d : Daemon) (c k : Course) (o : Option Answered) → k.answered ≡ c.answered → c.answered ≡ None → AnswersAgree d c o → AnswersAgree d k o
agree_stays d c k None same none h = same ∙ h
agree_stays d c k (Some a) same none h = absurd (not_answered d c a none h)

pub changed_course : (d : Daemon) (f : Course → Course) (keeps : KeepsAsking f) (c : Course) (m : Submitted) (t : Bool) → (t ≡ true → c.answered ≡ None)
    → IsCourseOf d c m → IsCourseOf d (changed_if t f c) m
changed_course d f keeps c m false none h = h
changed_course d f keeps c m true none h =
    record {
      call = h.call ∙ sym (keeps.call c);
      made = h.made ∙ ap (λ x. Some x) (sym (keeps.made c));
      reading = h.reading ∙ ap (λ (x : Stamp). reading_of x.clock) (sym (keeps.made c));
      answers = agree_stays d c (f c) m.answer (keeps.answered c) (none refl) h.answers;
    }

-- ---- the daemon has one more entry

agree_later : (d : Daemon) (e : Entry) (s : Stamp) (c : Course) (o : Option Answered) → AnswersAgree d c o → AnswersAgree (with_entry e s d) c o
agree_later d e s c None h = h
agree_later d e s c (Some a) h =
    record {
      stamp = h.stamp;
      answered = h.answered;
      entry = stamp_stays s d.stamps a.at h.stamp h.entry;
      reading = h.reading;
      done = h.done;
      gives = h.gives;
    }

pub later_course : (d : Daemon) (e : Entry) (s : Stamp) (c : Course) (m : Submitted) → IsCourseOf d c m → IsCourseOf (with_entry e s d) c m
later_course d e s c m h =
    record {
      call = h.call;
      made = stamp_stays s d.stamps m.at c.made h.made;
      reading = h.reading;
      answers = agree_later d e s c m.answer h.answers;
    }

-- ---- the entry answers the call

-- The entry and its stamp, after as many stamps as entries.
pub record IsEntered (d : Daemon) (e : Entry) (s : Stamp) : Type 0 where
  pub reading : reading_of s.clock ≡ e.reading
  pub place : length d.trace ≡ length d.stamps

now_agrees : (d : Daemon) (e : Entry) (s : Stamp) (answer : Answer) (c : Course) (k : Call) (o : Option Answered) → IsEntered d e s → Awaits d answer c → AnswersAgree d c o
    → AnswersAgree (with_entry e s d) (told s (is_ok_answer answer) c) (option_or o (Some (answer_of d.trace e answer k)))
now_agrees d e s answer c k None is h agree =
    record {
      stamp = s;
      answered = refl;
      entry = newest_stamp s d.stamps (length d.trace) is.place;
      reading = is.reading;
      done = refl;
      gives = h.gives;
    }
now_agrees d e s answer c k (Some a) is h agree = absurd (not_answered d c a h.answered agree)

answered_by : (d : Daemon) (e : Entry) (s : Stamp) (answer : Answer) (c : Course) (m : Submitted) (t : Bool) → IsEntered d e s → (t ≡ true → Awaits d answer c)
    → IsCourseOf d c m
    → IsCourseOf (with_entry e s d) (changed_if t (told s (is_ok_answer answer)) c)
    (elim t as (λ x. Submitted) [ false ↦ m | true ↦ record m { answer = option_or m.answer (Some (answer_of d.trace e answer m.call)) } ])
answered_by d e s answer c m false is h k = later_course d e s c m k
answered_by d e s answer c m true is h k =
    record {
      call = k.call;
      made = stamp_stays s d.stamps m.at c.made k.made;
      reading = k.reading;
      answers = now_agrees d e s answer c m.call m.answer is (h refl) k.answers;
    }

pub answered_course : (d : Daemon) (e : Entry) (s : Stamp) (n : ℕ) (answer : Answer) (c : Course) (m : Submitted) → IsEntered d e s
    → ((c.call.number == n) ≡ true → Awaits d answer c) → IsCourseOf d c m
    → IsCourseOf (with_entry e s d) (changed_if (c.call.number == n) (told s (is_ok_answer answer)) c) (answered_in d.trace e n answer m)
answered_course d e s n answer c m is h k =
    let same : (m.call.number == n) ≡ (c.call.number == n) = ap (λ (x : Call). x.number == n) k.call in
    subst (λ t. IsCourseOf (with_entry e s d) (changed_if (c.call.number == n) (told s (is_ok_answer answer)) c)
    (elim t as (λ x. Submitted) [ false ↦ m | true ↦ record m { answer = option_or m.answer (Some (answer_of d.trace e answer m.call)) } ])) (sym same)
    (answered_by d e s answer c m (c.call.number == n) is h k)

-- ---- the entry makes the call

pub made_course : (d : Daemon) (e : Entry) (s : Stamp) (c : Call) → IsEntered d e s
    → IsCourseOf (with_entry e s d) (new_course s d.number c) (new_call (length d.trace) e.reading c)
made_course d e s c is =
    record { call = refl; made = newest_stamp s d.stamps (length d.trace) is.place; reading = sym is.reading; answers = refl }
