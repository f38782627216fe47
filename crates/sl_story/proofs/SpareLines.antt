-- A line whose event may happen is taken where there is room for it; and one of the spare lines always may stand.
use Rattle.sl_play.specs.Plays.{IsPlaying, PlayState, PlaysOn, StopsAt, TakesLines}
use Rattle.sl_report.specs.EventLines.{checked_event, event_forms}
use Rattle.sl_report.specs.Languages.{whole_language}
use Rattle.sl_report.specs.ReadLines.{event_in}
use Rattle.sl_report.specs.Schedules.{At_line, EventLine, Follows, IsAskOf, NoAsk, event_line, event_or_syntax, greatest_source}
use Rattle.sl_run.specs.EventChanges.{happens}
use Rattle.sl_run.specs.Refusals.{event_tests, may_happen, refusal_of}
use Rattle.sl_run.specs.Runs.{Happening}
use Rattle.sl_run.specs.Worlds.{Machine, World, first_that, machine_at}
use Rattle.sl_run.specs.declared.event.Event.TheVariants.{Restart, Test}
use Rattle.sl_run.specs.declared.event.Event.{Event}
use Rattle.sl_run.specs.declared.event.Refusal.TheVariants.{MissingDown, MissingMachine, MissingUp, Syntax}
use Rattle.sl_run.specs.declared.event.Refusal.{Refusal}
use Rattle.sl_run.specs.declared.header.Header.{Header}
use Rattle.sl_story.proofs.StoryTold.{PlaysLine}
use Rattle.sl_story.specs.StoryPlays.{MayStand, line_at}
use Rattle.sl_story.specs.ToldSchedules.{says}
use Rattle.sl_story.specs.declared.place.Place.{Place}
use Rattle.sl_text.specs.Forms.{Form, exactly, fits_whole, words_of}
use Rattle.sl_text.specs.Numbers.{is_number_text}
use Rattle.sl_trace.specs.Traces.{Setting, Trace}
use Rattle.sl_trace.specs.declared.command.Command.{Command}
use Rattle.sl_words.proofs.CaseLaws.{false_is_true}
use Rattle.std.proofs.Common.{Bool, List, None, Option, Some, [], ap, ap₂, arith, cond, drop, false, length, refl, subst, sym, true, ℕ, ◌+◌, ◌<◌, ◌==◌, ◌∙◌, ◌∷◌, ◌≡◌, ◌≤◌}
use Rattle.std.proofs.lemmas.Bool.Decides.{nat_tests}
use Rattle.std.specs.Fmt.{digits}
use Rattle.std.specs.Option.{option_to_list}
use Rattle.std.specs.Prelude.{IsTrue, Ok, codes, find, is_none, is_some, nat_lt, not, option_map, replicate, slice_get, ◌&&◌}

-- ---- a line that is refused

-- Behind the last line no line is refused.
never_behind : (w : World) (xs : List Happening) (n : ℕ) (why : Refusal) → Follows w [] xs (At_line n why) → ⊥
never_behind w [] n why f = f
never_behind w (x ∷ xs) n why f = never_behind (happens w x.0 x.1) xs n why f.1

-- One line's event came to pass where no ask is due.
came_to_pass : (w : World) (k : ℕ) (e : Event) (x : Happening) (xs : List Happening) (n : ℕ) (why : Refusal) → NoAsk w → Follows w ((k, Ok e) ∷ []) (x ∷ xs) (At_line n why)
    → (e ≡ x.0) × IsTrue (may_happen w e) × Follows (happens w x.0 x.1) [] xs (At_line n why)
came_to_pass w k e x xs n why none f =
    subst (λ o. elim o as (λ z. Type 0) [
      | Some m ↦ IsAskOf w x × Follows (happens w x.0 x.1) ((k, Ok e) ∷ []) xs (At_line n why)
      | None ↦ (e ≡ x.0) × IsTrue (may_happen w e) × Follows (happens w x.0 x.1) [] xs (At_line n why)
    ]) none f

refused_there : (w : World) (k : ℕ) (e : Event) (xs : List Happening) (n : ℕ) (why : Refusal) → NoAsk w → Follows w ((k, Ok e) ∷ []) xs (At_line n why) → refusal_of w e ≡ Some why
refused_there w k e [] n why none f = f.1
refused_there w k e (x ∷ xs) n why none f = absurd (never_behind (happens w x.0 x.1) xs n why (came_to_pass w k e x xs n why none f).2)

never_both : (o : Option Refusal) (why : Refusal) → o ≡ Some why → is_none o ≡ true → ⊥
never_both o why is may = absurd (false_is_true (sym (ap is_none is) ∙ may))

-- ---- room

no_room : (line : List ℕ) (bytes : ℕ) (o : Option Place) → o ≡ None → is_some o ≡ (says line && nat_lt (bytes + length line) greatest_source) → says line ≡ true
    → bytes + length line < greatest_source → ⊥
no_room line bytes o none is saying room =
    absurd (false_is_true (sym (ap is_some none) ∙ is ∙ ap₂ (λ a b. a && b) saying (below (bytes + length line) room)))
  where
    below : (n : ℕ) → n < greatest_source → nat_lt n greatest_source ≡ true
    below n h = grind (arith, nat_tests)

module _ {D : Type 0} (commands : Header → List (Form Command)) (stands : D → Setting → Trace → Type 0) where
  stopped_there : (w : World) (p n : PlayState D) (k number : ℕ) (e : Event) (out now : List ℕ) (why : Refusal) → NoAsk w
      → StopsAt stands w p ((k, Ok e) ∷ []) number out n now why → may_happen w e ≡ true → ⊥
  stopped_there w p n k number e out now why none stops may =
      let f = stops.finishes whole_language [] in never_both (refusal_of w e) why (refused_there w k e f.xs number why none f.follows) may

  -- The place has no room for it, or it says nothing.
  pub nowhere : (a : Place) (line : List ℕ) (o : Option Place) (h : Header) (w : World) → o ≡ None → is_some o ≡ (says line && nat_lt (a.bytes + length line) greatest_source)
      → MayStand h w a line → ⊥
  nowhere a line o h w none is m = no_room line a.bytes o none is m.saying m.room

  -- The play refuses it.
  pub never_refused : (a b : Place) (line out now : List ℕ) (p n : PlayState D) (o : Option Refusal) (why : Refusal) (w : World) → o ≡ Some why → b.lines ≡ a.lines + 1
      → PlaysLine commands stands p (line_at b.lines a.bytes line) out n now o → PlaysOn commands stands p w → MayStand p.kept.header w a line → ⊥
  never_refused a b line out now p n o why w is lines plays on m =
      let h : Header = p.kept.header in
      let read : event_line whole_language h (line_at b.lines a.bytes line) ≡ Some (a.lines + 1, Ok m.event) =
      ap (λ k. event_line whole_language h (line_at k a.bytes line)) lines ∙ m.read in
      let stops : StopsAt stands w p (option_to_list (event_line whole_language h (line_at b.lines a.bytes line))) b.lines out n now why =
      subst (TakesLines commands stands w p (option_to_list (event_line whole_language h (line_at b.lines a.bytes line))) b.lines out n now) is (plays w on) in
      stopped_there w p n (a.lines + 1) b.lines m.event out now why on.unasked
      (subst (λ (l : Option EventLine). StopsAt stands w p (option_to_list l) b.lines out n now why) read stops) m.may

-- ---- the spare lines

-- They are read: no time that passes, for whatever number of machines, begins so.
and_none : (b : Bool) → (b && false) ≡ false
and_none true = refl
and_none false = refl

-- Whether words spell time that passes, with the growth of each clock.
abbrev is_pass : ℕ → List (List ℕ) → Bool
is_pass machines ws = length (exactly (codes "pass") ∷ is_number_text ∷ replicate machines is_number_text) == length ws

-- What the forms make of words, by whether they spell that.
abbrev made_of : ℕ → ℕ → List (List ℕ) → Bool → Option Event
made_of machines sector ws b =
    checked_event sector (option_map (λ (f : Form Event). f.make ws)
    (cond b (slice_get (event_forms machines sector) 1) (find (λ (f : Form Event). fits_whole f.words ws) (drop 2 (event_forms machines sector)))))

restart_in : (machines sector : ℕ) → event_in whole_language machines sector (codes "restart 1") ≡ Some (Restart 1)
unfolding digits event_forms
restart_in machines sector = let ws : List (List ℕ) = words_of (codes "restart 1") in ap (made_of machines sector ws) (and_none (is_pass machines ws))

test_in : (machines sector : ℕ) → event_in whole_language machines sector (codes "test 1") ≡ Some (Test 1)
unfolding digits event_forms
test_in machines sector = let ws : List (List ℕ) = words_of (codes "test 1") in ap (made_of machines sector ws) (and_none (is_pass machines ws))

restart_read : (h : Header) (n start : ℕ) → event_line whole_language h (line_at n start (codes "restart 1")) ≡ Some (n, Ok (Restart 1))
restart_read h n start = ap (λ o. Some (n, event_or_syntax o)) (restart_in h.machines h.geometry.sector)

test_read : (h : Header) (n start : ℕ) → event_line whole_language h (line_at n start (codes "test 1")) ≡ Some (n, Ok (Test 1))
test_read h n start = ap (λ o. Some (n, event_or_syntax o)) (test_in h.machines h.geometry.sector)

-- One of their events may happen.
may_restart : (w : World) (a : Machine) → machine_at w 1 ≡ Some a → a.up ≡ false → may_happen w (Restart 1) ≡ true
unfolding event_tests
may_restart w a there down =
    ap (λ (o : Option Machine). is_none (first_that ((false, Syntax) ∷ elim o [ None ↦ (true, MissingMachine) ∷ [] | Some b ↦ (b.up, MissingDown) ∷ [] ]))) there
    ∙ ap (λ b. is_none (first_that ((false, Syntax) ∷ (b, MissingDown) ∷ []))) down

may_test : (w : World) (a : Machine) → machine_at w 1 ≡ Some a → a.up ≡ true → may_happen w (Test 1) ≡ true
unfolding event_tests
may_test w a there up =
    ap (λ (o : Option Machine). is_none (first_that ((false, Syntax) ∷ elim o [ None ↦ (true, MissingMachine) ∷ [] | Some b ↦ (not b.up, MissingUp) ∷ [] ]))) there
    ∙ ap (λ b. is_none (first_that ((false, Syntax) ∷ (not b, MissingUp) ∷ []))) up

first_of : (machines : List Machine) → 1 ≤ length machines → (a : Machine) × (slice_get machines 0 ≡ Some a)
first_of [] some = absurd (none some)
  where
    none : 1 ≤ 0 → ⊥
    none h = absurd (omega (arith, h))
first_of (a ∷ machines) some = (a, refl)

module _ {D : Type 0} (commands : Header → List (Form Command)) (stands : D → Setting → Trace → Type 0) where
  -- In no world that the play stands for may the line stand.
  abbrev pub IsBarredAt : PlayState D → Place → List ℕ → Type 0
  IsBarredAt p a line = (w : World) → PlaysOn commands stands p w → MayStand p.kept.header w a line → ⊥

  one_stands : (p : PlayState D) (a : Place) (w : World) → PlaysOn commands stands p w → a.bytes + 10 ≤ greatest_source → IsBarredAt p a (codes "restart 1") → IsBarredAt p a (codes "test 1") → ⊥
  one_stands p a w on room restart test =
      let sane = on.stands_for.sane in
      let some : 1 ≤ w.header.machines = sane.header.machines.0 in
      let first = first_of w.machines (subst (λ k. 1 ≤ k) (sym sane.counted) some) in
      by_test first.0 first.1 first.0.up refl
    where
      nine : (n : ℕ) → n + 10 ≤ greatest_source → n + 9 < greatest_source
      nine n h = omega (arith, h)

      six : (n : ℕ) → n + 10 ≤ greatest_source → n + 6 < greatest_source
      six n h = omega (arith, h)

      by_test : (m : Machine) → slice_get w.machines 0 ≡ Some m → (b : Bool) → m.up ≡ b → ⊥
      by_test m there false down = restart w on (record {
        saying = refl;
        room = nine a.bytes room;
        event = Restart 1;
        read = restart_read p.kept.header (a.lines + 1) a.bytes;
        may = may_restart w m there down;
      })
      by_test m there true up = test w on (record {
        saying = refl;
        room = six a.bytes room;
        event = Test 1;
        read = test_read p.kept.header (a.lines + 1) a.bytes;
        may = may_test w m there up;
      })

  -- Where neither is taken, there is no room.
  pub no_room_left : (p q : PlayState D) (a : Place) (restart test : List ℕ) → IsPlaying commands stands p → q ≡ p → restart ≡ codes "restart 1" → test ≡ codes "test 1"
      → IsBarredAt p a restart → IsBarredAt q a test → greatest_source < a.bytes + 10
  no_room_left p q a restart test s same is_restart is_test first second = by_test (nat_lt greatest_source (a.bytes + 10)) refl
    where
      past : (n : ℕ) → nat_lt greatest_source n ≡ true → greatest_source < n
      past n h = grind (arith, nat_tests)

      within : (n : ℕ) → nat_lt greatest_source n ≡ false → n ≤ greatest_source
      within n h = grind (arith, nat_tests)

      by_test : (b : Bool) → nat_lt greatest_source (a.bytes + 10) ≡ b → greatest_source < a.bytes + 10
      by_test true is = past (a.bytes + 10) is
      by_test false is =
          absurd (one_stands p a s.world s.plays (within (a.bytes + 10) is) (subst (IsBarredAt p a) is_restart first)
          (subst (IsBarredAt p a) is_test (subst (λ (x : PlayState D). IsBarredAt x a test) same second)))
