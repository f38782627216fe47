-- Before a step's input, whatever it refused by then, a session that was joined has its name.
use Rattle.sl_due_leases.proofs.Holdings.PlainPlaces.{text_is}
use Rattle.sl_due_facts.proofs.Jobs.SessionsArePresent.{joined_present, present_inside, present_is}
use Rattle.sl_run.specs.Caused.{Answering, WithSession, before_entry, the_session}
use Rattle.sl_trace.specs.Jobs.{lockspace_named}
use Rattle.sl_words.proofs.Lists.{find_fails, find_inside}
use Rattle.sl_trace.specs.Sessions.{has_open_write, is_joined, is_present, joined_after, present_sessions, refused_after, removed_after, session_named, sessions}
use Rattle.sl_trace.specs.declared.session.Session.{Session}
use Rattle.sl_due_facts.specs.Facts.AllFacts.{WholeTrace}
use Rattle.sl_trace.specs.Traces.{Setting, Trace, is_before_input, no_effects}
use Rattle.sl_trace.specs.declared.command.Command.{Command}
use Rattle.sl_trace.specs.declared.effects.Entry.{Entry}
use Rattle.sl_trace.specs.declared.effects.JobReply.{JobReply}
use Rattle.sl_trace.specs.declared.effects.Start.{Start}
use Rattle.sl_trace.specs.declared.input.Input.TheVariants.{Wake}
use Rattle.sl_run_law.proofs.Sessions.SessionNames.{same_name}
use Rattle.sl_run_law.proofs.Sessions.MarksStay.{joined_more, refused_apart, refused_more}
use Rattle.sl_words.proofs.CaseLaws.{false_is_true, none_some, not_both}
use Rattle.sl_words.proofs.WordLaws.{and_true}
use Rattle.sl_words.specs.Words.{choose}
use Rattle.std.proofs.Common.{ap, ap₂, refl, subst, sym, ◌∙◌}
use Rattle.std.proofs.lemmas.List.{append-nil}
use Rattle.std.specs.Prelude.{Bool, Contains, Err, IsSomeAnd, List, None, Ok, Option, Result, Some, bytes_eq, false, filter, is_none, is_some, length, option_and_then, true, ℕ, ◌&&◌, ◌+◌, ◌∷◌, ◌≡◌, ◌||◌}

-- An entry before its input: it has refused jobs and started programs.
abbrev pub early_entry : ℕ → List Start → List JobReply → Entry
early_entry now ks rs = record { reading = now; input = Wake; effects = record no_effects { starts = ks; replies = rs } }

pub removed_then : (past : Trace) (now : ℕ) (ks : List Start) (rs : List JobReply) (s : Session) → removed_after (early_entry now ks rs ∷ past) s ≡ removed_after past s
removed_then past now ks rs s = by (removed_after past s) (is_some (joined_after past s)) where
  by : (o : Option ℕ) (b : Bool) → (elim o as (λ z. Option ℕ) [ Some k ↦ Some k | None ↦ choose (b && false) (length past + 1) ]) ≡ o
  by (Some k) b = refl
  by None true = refl
  by None false = refl

abbrev pub present_as : Option ℕ → Option ℕ → Option ℕ → Bool → Bool
present_as joined removed refused writes = is_none (elim joined as (λ z. Option ℕ) [ Some k ↦ removed | None ↦ refused ]) || is_none joined && writes

at_work : (joined removed refused : Option ℕ) (writes : Bool) → joined ≡ None → refused ≡ None → present_as joined removed refused writes ≡ true
at_work None removed None writes a b = refl
at_work (Some k) removed refused writes a b = absurd (none_some k (sym a))
at_work None removed (Some k) writes a b = absurd (none_some k (sym b))

-- Nobody is present then who was not.
pub present_before : (past : Trace) (now : ℕ) (ks : List Start) (rs : List JobReply) (s : Session) → is_present (early_entry now ks rs ∷ past) s ≡ true → is_present past s ≡ true
present_before past now ks rs s is = by (joined_after past s) refl (refused_after past s) refl where
  t : Trace
  t = early_entry now ks rs ∷ past

  by : (o : Option ℕ) → joined_after past s ≡ o → (q : Option ℕ) → refused_after past s ≡ q → is_present past s ≡ true
  by None joined None refused = at_work (joined_after past s) (removed_after past s) (refused_after past s) (has_open_write past s) joined refused
  by (Some k) joined q refused =
      ap₂ (λ o r. present_as o r (refused_after past s) (has_open_write past s)) joined (sym (removed_then past now ks rs s))
      ∙ (sym (ap (λ o. present_as o (removed_after t s) (refused_after t s) (has_open_write t s)) (joined_more (early_entry now ks rs) past s k joined)) ∙ is)
  by None joined (Some k) refused =
      let later : refused_after t s ≡ Some k = refused_more (early_entry now ks rs) past s k refused in
      let none : joined_after t s ≡ None = refused_apart t s k later in
      ap₂ (λ o r. present_as o (removed_after past s) r (has_open_write past s)) joined refused
      ∙ (sym (ap₂ (λ o r. present_as o (removed_after t s) r (has_open_write t s)) none later) ∙ is)

-- Who was joined is.
pub joined_then : (past : Trace) (now : ℕ) (ks : List Start) (rs : List JobReply) (s : Session) → is_joined past s ≡ true → is_joined (early_entry now ks rs ∷ past) s ≡ true
joined_then past now ks rs s is = by (joined_after past s) refl (and_true (is_some (joined_after past s)) (is_none (removed_after past s)) is) where
  by : (o : Option ℕ) → joined_after past s ≡ o → (is_some (joined_after past s) ≡ true) × (is_none (removed_after past s) ≡ true) → is_joined (early_entry now ks rs ∷ past) s ≡ true
  by None joined h = absurd (false_is_true (sym (ap (λ w. is_some w) joined) ∙ h.0))
  by (Some k) joined h =
      ap₂ (λ w q. is_some w && is_none q) (joined_more (early_entry now ks rs) past s k joined) (removed_then past now ks rs s) ∙ h.1

-- It is found by its name.
pub named_then : (st : Setting) (past : Trace) (now : ℕ) (ks : List Start) (rs : List JobReply) (s : Session) → WholeTrace st past → Contains (sessions st past) s → is_joined past s ≡ true
    → session_named st (early_entry now ks rs ∷ past) s.lockspace ≡ Some s
named_then st past now ks rs s w there joined = by (session_named st t s.lockspace) refl where
  t : Trace
  t = early_entry now ks rs ∷ past

  same : sessions st t ≡ sessions st past
  same = append-nil (sessions st past)

  mine : Contains (present_sessions st t) s
  mine = present_inside st t s (subst (λ ss. Contains ss s) (sym same) there) (joined_present t s (joined_then past now ks rs s joined))

  by : (o : Option Session) → session_named st t s.lockspace ≡ o → session_named st t s.lockspace ≡ Some s
  by None none = absurd (not_both (bytes_eq s.lockspace s.lockspace) (same_name s.lockspace) (find_fails (λ (z : Session). bytes_eq z.lockspace s.lockspace) (present_sessions st t) s none mine))
  by (Some f) found =
      let inside = find_inside (λ (z : Session). bytes_eq z.lockspace s.lockspace) (present_sessions st t) f found in
      let is = present_is st t f inside.0 in
      let before : Contains (present_sessions st past) f = present_inside st past f (subst (λ ss. Contains ss f) same is.0) (present_before past now ks rs f is.1) in
      let one : f ≡ s = w.facts.names.apart f s before (present_inside st past s there (joined_present past s joined)) (text_is f.lockspace s.lockspace inside.1) in
      found ∙ ap (λ z. Some z) one

-- So it is the session of each job that names its lockspace.
pub session_then : (y : Answering) (c : Command) (s : Session) → WholeTrace y.setting y.past → Contains (sessions y.setting y.past) s → is_joined y.past s ≡ true → y.job.command ≡ Ok c → lockspace_named c ≡ Some s.lockspace
    → the_session y ≡ Some s
session_then y c s w there joined command names =
    ap (λ (r : Result Command ℕ). elim r as (λ z. Option Session) [ Ok d ↦ option_and_then (session_named y.setting (before_entry y)) (lockspace_named d) | Err e ↦ None ]) command
    ∙ (ap (λ o. option_and_then (session_named y.setting (before_entry y)) o) names
    ∙ named_then y.setting y.past y.entry.reading (filter (λ (k : Start). is_some k.stands_for) y.entry.effects.starts) (filter (λ (a : JobReply). is_before_input a.reply) y.entry.effects.replies) s w there joined)

pub with_session : (y : Answering) (s : Session) (P : Session → Type 0) → the_session y ≡ Some s → P s → WithSession y P
with_session y s P is holds = subst (λ o. IsSomeAnd o P) (sym is) holds
