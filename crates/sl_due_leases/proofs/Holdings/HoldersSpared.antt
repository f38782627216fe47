-- A removal of a connection is no holder's: it is of a session that isn't joined, or holds nothing.
use Rattle.sl_due.specs.Steps.{Step, add_move, seen}
use Rattle.sl_due.specs.DueTimeOuts.{remove_connection}
use Rattle.sl_due_leases.proofs.Holdings.HoldingsByEffects.{HoldsAt, SparesHolders, move_held}
use Rattle.sl_due_leases.proofs.Holdings.PlainPlaces.{text_is}
use Rattle.sl_words.proofs.Lists.{contains_cases, contains_first, contains_more, contains_none, got_inside, kept}
use Rattle.sl_words.proofs.Numbers.{number_itself}
use Rattle.sl_words.proofs.Options.{none_is}
use Rattle.sl_trace.specs.Sessions.{calls_of, ended_after, has_open_write, holdings_of, is_joined, is_present, joined_after, present_sessions, refused_after, removed_after, session_numbered, sessions}
use Rattle.sl_trace.specs.declared.session.Session.{Session}
use Rattle.sl_due_facts.specs.Facts.HeardCall.{IsOpen, heard_by}
use Rattle.sl_due_facts.specs.Facts.SessionFacts.{ConnectionFacts, NameFacts}
use Rattle.sl_trace.specs.WatchdogConnections.{is_registered}
use Rattle.sl_trace.specs.Traces.{Setting, Submitted, Trace, holdings, is_running, is_write, reply_to, submitted}
use Rattle.sl_trace.specs.declared.effects.Grant.{Grant}
use Rattle.sl_trace.specs.declared.effects.Move.TheVariants.{Unregister}
use Rattle.sl_run_law.proofs.Leases.NumberLaws.{number_is_place}
use Rattle.sl_words.proofs.CaseLaws.{is_false, not_both, true_is_false}
use Rattle.sl_words.proofs.WordLaws.{and_true}
use Rattle.sl_words.specs.Orders.{is_text_before, put_in}
use Rattle.std.proofs.Common.{ap, inl, inr, refl, subst, sym, ◌∙◌}
use Rattle.std.specs.Prelude.{Bool, Contains, List, None, Option, Some, [], bytes_eq, false, filter, fold, if◌then◌else◌, is_none, is_some, true, ℕ, ◌&&◌, ◌==◌, ◌||◌, ◌∷◌, ◌≡◌, ◌⊎◌}

-- ---- what is sorted stays

put_first : {A : Type 0} (before : A → A → Bool) (x : A) (ys : List A) → Contains (put_in before x ys) x
put_first before x [] = contains_first x []
put_first {A} before x (y ∷ ys) = by (before x y) (put_first before x ys) where
  by : (b : Bool) → Contains (put_in before x ys) x → Contains (if b then x ∷ y ∷ ys else y ∷ put_in before x ys) x
  by true rest = contains_first x (y ∷ ys)
  by false rest = contains_more y (put_in before x ys) x rest

put_old : {A : Type 0} (before : A → A → Bool) (x : A) (ys : List A) (d : A) → Contains ys d → Contains (put_in before x ys) d
put_old before x [] d there = absurd (contains_none d there)
put_old {A} before x (y ∷ ys) d there = by (before x y) (contains_cases y ys d there) (λ inside. put_old before x ys d inside) where
  by : (b : Bool) → (y ≡ d) ⊎ Contains ys d → (Contains ys d → Contains (put_in before x ys) d) → Contains (if b then x ∷ y ∷ ys else y ∷ put_in before x ys) d
  by true at rest = contains_more x (y ∷ ys) d there
  by false (inl here) rest = subst (λ z. Contains (y ∷ put_in before x ys) z) here (contains_first y (put_in before x ys))
  by false (inr inside) rest = contains_more y (put_in before x ys) d (rest inside)

sorted_old : {A : Type 0} (before : A → A → Bool) (xs sorted : List A) (d : A) → Contains sorted d → Contains (fold (λ ys x. put_in before x ys) sorted xs) d
sorted_old before [] sorted d there = there
sorted_old before (x ∷ xs) sorted d there = sorted_old before xs (put_in before x sorted) d (put_old before x sorted d there)

sorted_new : {A : Type 0} (before : A → A → Bool) (xs sorted : List A) (d : A) → Contains xs d → Contains (fold (λ ys x. put_in before x ys) sorted xs) d
sorted_new before [] sorted d there = absurd (contains_none d there)
sorted_new {A} before (x ∷ xs) sorted d there = by (λ inside. sorted_new before xs (put_in before x sorted) d inside) (contains_cases x xs d there) where
  by : (Contains xs d → Contains (fold (λ ys y. put_in before y ys) (put_in before x sorted) xs) d) → (x ≡ d) ⊎ Contains xs d
      → Contains (fold (λ ys y. put_in before y ys) (put_in before x sorted) xs) d
  by rest (inl here) = sorted_old before xs (put_in before x sorted) d (subst (λ z. Contains (put_in before x sorted) z) here (put_first before x sorted))
  by rest (inr inside) = rest inside

pub present_there : (st : Setting) (t : Trace) (s : Session) → Contains (sessions st t) s → is_present t s ≡ true → Contains (present_sessions st t) s
present_there st t s there present = sorted_new (λ (a b : Session). is_text_before a.lockspace b.lockspace) (filter (is_present t) (sessions st t)) [] s (kept (is_present t) (sessions st t) s present there)

-- ---- who is present

pub joined_present : (t : Trace) (s : Session) → is_joined t s ≡ true → is_present t s ≡ true
joined_present t s is = by (joined_after t s) (removed_after t s) (has_open_write t s) is where
  by : (joined removed : Option ℕ) (waits : Bool) → (is_some joined && is_none removed) ≡ true
      → (is_none (elim joined as (λ z. Option ℕ) [ Some k ↦ removed | None ↦ refused_after t s ]) || (is_none joined && waits)) ≡ true
  by (Some k) None waits is = refl
  by (Some k) (Some i) waits is = absurd (not_both true refl (sym is))
  by None removed waits is = absurd (not_both true refl (sym is))

pub joined_some : (t : Trace) (s : Session) → is_joined t s ≡ true → joined_after t s ≡ None → ⊥
joined_some t s is none = true_is_false (sym (and_true (is_some (joined_after t s)) (is_none (removed_after t s)) is).0 ∙ ap (λ o. is_some o) none)

-- A session whose joining runs isn't joined, and is present.
pub record IsJoining (t : Trace) (s : Session) : Type 0 where
  pub unjoined : joined_after t s ≡ None
  pub present : is_present t s ≡ true

pub joining : (t : Trace) (s : Session) (j : ℕ) → s.job ≡ Some j → is_running t j ≡ true → IsJoining t s
joining t s j its runs = record { unjoined = unjoined; present = present } where
  none : reply_to t j ≡ None
  none = none_is (reply_to t j) runs

  unjoined : joined_after t s ≡ None
  unjoined = rw (its, joined_after) (rw none refl)

  refused : refused_after t s ≡ None
  refused = rw (its, refused_after) (rw none refl)

  present : is_present t s ≡ true
  present = rw (unjoined, is_present, ended_after) (rw refused refl)

-- ---- whose removal spares all holders

-- No holding is of this name.
abbrev pub NoneHeldOf : Step → List ℕ → Type 0
NoneHeldOf x name = (g : Grant) → Contains (holdings (seen x)) g → g.lockspace ≡ name → ⊥

pub spares_of : (x : Step) (name : List ℕ) → NoneHeldOf x name → SparesHolders x (Unregister name)
spares_of x name none g there = is_false (bytes_eq name g.lockspace) (λ same. none g there (sym (text_is name g.lockspace same)))

pub removal_held : (x : Step) (name : List ℕ) → NoneHeldOf x name → HoldsAt x → HoldsAt (remove_connection name x)
removal_held x name none h = by (is_registered x.setting (seen x) name) where
  by : (b : Bool) → HoldsAt (elim b as (λ z. Step) [ true ↦ add_move (Unregister name) x | false ↦ x ])
  by true = move_held x (Unregister name) (spares_of x name none) h
  by false = h

-- Of a session that isn't joined but present.
pub none_of_joining : (x : Step) (s : Session) → HoldsAt x → NameFacts x.setting (seen x) (heard_by x.input) → Contains (sessions x.setting (seen x)) s → IsJoining (seen x) s → NoneHeldOf x s.lockspace
none_of_joining x s h names there j g held same =
    let o = h.owned g held in
    let inside : Contains (sessions x.setting (seen x)) o.0 = got_inside (sessions x.setting (seen x)) g.session o.0 o.1 in
    let one : o.0 ≡ s =
    names.apart o.0 s (present_there x.setting (seen x) o.0 inside (joined_present (seen x) o.0 o.2)) (present_there x.setting (seen x) s there j.present) (sym o.3 ∙ same) in
    joined_some (seen x) s (subst (λ z. is_joined (seen x) z ≡ true) one o.2) j.unjoined

-- Of a joined session that holds nothing.
pub none_of_empty : (x : Step) (s : Session) → HoldsAt x → NameFacts x.setting (seen x) (heard_by x.input) → Contains (sessions x.setting (seen x)) s → session_numbered x.setting (seen x) s.number ≡ Some s
    → is_joined (seen x) s ≡ true → holdings_of (seen x) s ≡ [] → NoneHeldOf x s.lockspace
none_of_empty x s h names there its joined empty g held same =
    let o = h.owned g held in
    let inside : Contains (sessions x.setting (seen x)) o.0 = got_inside (sessions x.setting (seen x)) g.session o.0 o.1 in
    let one : o.0 ≡ s =
    names.apart o.0 s (present_there x.setting (seen x) o.0 inside (joined_present (seen x) o.0 o.2)) (present_there x.setting (seen x) s there (joined_present (seen x) s joined)) (sym o.3 ∙ same) in
    let number : g.session ≡ s.number = sym (number_is_place x.setting (seen x) g.session o.0 o.1) ∙ ap (λ (z : Session). z.number) one in
    contains_none g (subst (λ gs. Contains gs g) empty
    (kept (λ (k : Grant). k.session == s.number) (holdings (seen x)) g (subst (λ n. (n == s.number) ≡ true) (sym number) (number_itself s.number)) held))

-- Of one whose joining was refused, or may have been, with a write that is open.
pub none_of_writer : (x : Step) (s : Session) (m : Submitted) → HoldsAt x → ConnectionFacts x.setting (seen x) (heard_by x.input) → Contains (sessions x.setting (seen x)) s → joined_after (seen x) s ≡ None
    → Contains (submitted (seen x)) m → m.call.session ≡ s.number → is_write m.call.op ≡ true → IsOpen (seen x) (heard_by x.input) m → NoneHeldOf x s.lockspace
none_of_writer x s m h connections there unjoined inside its writes opens g held same =
    let o = h.owned g held in
    let mine : Contains (calls_of (seen x) s) m = kept (λ (k : Submitted). k.call.session == s.number) (submitted (seen x)) m (subst (λ n. (n == s.number) ≡ true) (sym its) (number_itself s.number)) inside in
    let one : o.0 ≡ s =
    connections.writers s o.0 m there unjoined mine writes opens (got_inside (sessions x.setting (seen x)) g.session o.0 o.1) (joined_present (seen x) o.0 o.2) (sym o.3 ∙ same) in
    joined_some (seen x) s (subst (λ z. is_joined (seen x) z ≡ true) one o.2) unjoined
