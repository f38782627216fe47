-- A state of an id with one session changed, for steps that one change of the world makes at once.
use Rattle.sl_id_safety.specs.State.IdStates.{same_name}
use Rattle.sl_ids.specs.Runs.{IsBounded, Later}
use Rattle.sl_ids.specs.State.{Content, Session as IdSession, SessionId as IdName, State}
use Rattle.sl_ids.specs.Steps.{ChangesOnly, Lands, Pass, Passes, SameLandings, Step}
use Rattle.sl_ids.specs.Terms.{Terms}
use Rattle.sl_words.proofs.Numbers.{equal_is_least, number_itself}
use Rattle.sl_words.proofs.CaseLaws.{is_false, not_both, true_is_false}
use Rattle.sl_words.proofs.WordLaws.{and_true}
use Rattle.std.proofs.Common.{ap, inl, inr, refl, sym, ◌∙◌}
use Rattle.std.proofs.lemmas.Bool.{and_from, eqb-true}
use Rattle.std.specs.Prelude.{Bool, Option, false, true, [], ◌&&◌, ◌==◌, ◌∷◌, ◌≡◌, ◌⊎◌}

-- ---- names

name_by : (a b : IdName) → a.machine ≡ b.machine → a.daemon ≡ b.daemon → a.number ≡ b.number → a ≡ b
name_by a b m d n =
    ap (λ x. let y : IdName = record { machine = x; daemon = a.daemon; number = a.number } in y) m
    ∙ ap (λ x. let y : IdName = record { machine = b.machine; daemon = x; number = a.number } in y) d
    ∙ ap (λ x. let y : IdName = record { machine = b.machine; daemon = b.daemon; number = x } in y) n

-- What is tested to be one name is one.
pub name_is : (a b : IdName) → same_name a b ≡ true → a ≡ b
name_is a b h =
    let p = and_true (a.machine == b.machine && a.daemon == b.daemon) (a.number == b.number) h in
    let q = and_true (a.machine == b.machine) (a.daemon == b.daemon) p.0 in
    name_by a b (eqb-true a.machine b.machine q.0) (eqb-true a.daemon b.daemon q.1) (eqb-true a.number b.number p.1)

pub name_itself : (a : IdName) → same_name a a ≡ true
name_itself a =
    and_from (a.machine == a.machine && a.daemon == a.daemon) (a.number == a.number)
    (and_from (a.machine == a.machine) (a.daemon == a.daemon) (number_itself a.machine) (number_itself a.daemon)) (number_itself a.number)

pub names_apart : (a b : IdName) → (a ≡ b → ⊥) → same_name a b ≡ false
names_apart a b h = is_false (same_name a b) (λ t. h (name_is a b t))

cases_by : (a b : IdName) (t : Bool) → same_name a b ≡ t → (a ≡ b) ⊎ (a ≡ b → ⊥)
cases_by a b true h = inl (name_is a b h)
cases_by a b false h = inr (λ e. not_both (same_name a b) (ap (λ x. same_name x b) e ∙ name_itself b) h)

-- Two names are one or two.
pub name_cases : (a b : IdName) → (a ≡ b) ⊎ (a ≡ b → ⊥)
name_cases a b = cases_by a b (same_name a b) refl

-- ---- one session changed

-- The state with this session in place of the one of that name.
abbrev pub with_session : State → IdName → IdSession → State
with_session w n s = record w { session = λ j. elim (same_name n j) [ true ↦ s | false ↦ w.session j ] }

at_itself : (t : Bool) (s x : IdSession) → t ≡ true → elim t as (λ z. IdSession) [ true ↦ s | false ↦ x ] ≡ s
at_itself true s x h = refl
at_itself false s x h = absurd (true_is_false (sym h))

at_other : (t : Bool) (s x : IdSession) → t ≡ false → elim t as (λ z. IdSession) [ true ↦ s | false ↦ x ] ≡ x
at_other true s x h = absurd (true_is_false h)
at_other false s x h = refl

pub changed_session : (w : State) (n : IdName) (s : IdSession) → (with_session w n s).session n ≡ s
changed_session w n s = at_itself (same_name n n) s (w.session n) (name_itself n)

pub other_session : (w : State) (n j : IdName) (s : IdSession) → (j ≡ n → ⊥) → (with_session w n s).session j ≡ w.session j
other_session w n j s h = at_other (same_name n j) s (w.session j) (names_apart n j (λ e. h (sym e)))

-- It changes only this one.
pub changes_one : (w : State) (n : IdName) (s : IdSession) → ChangesOnly w (with_session w n s) n s
changes_one w n s = record { now = refl; self = changed_session w n s; others = λ j h. other_session w n j s h }

-- .. also where the later state is one with other landings.
pub changes_with : (w v : State) (n : IdName) (s : IdSession) → v.now ≡ w.now → ((j : IdName) → (j ≡ n → ⊥) → v.session j ≡ w.session j)
    → ChangesOnly w (with_session v n s) n s
changes_with w v n s now others = record { now = now; self = changed_session v n s; others = λ j h. other_session v n j s h ∙ others j h }

-- Landings are the same with a session changed.
pub same_with : (w v : State) (n : IdName) (s : IdSession) → SameLandings w v → SameLandings w (with_session v n s)
same_with w v n s h = record { count = h.count; old = h.old }

pub same_from : (w v : State) (n : IdName) (s : IdSession) → SameLandings w v → SameLandings (with_session w n s) v
same_from w v n s h = record { count = h.count; old = h.old }

pub no_lands : (w : State) → SameLandings w w
no_lands w = record { count = refl; old = λ k h. refl }

pub lands_with : (w v : State) (n : IdName) (s : IdSession) (by : IdName) (spelled : Option Content) → Lands w v by spelled
    → Lands w (with_session v n s) by spelled
lands_with w v n s by spelled h = record { count = h.count; old = h.old; new = h.new }

pub lands_from : (w v : State) (n : IdName) (s : IdSession) (by : IdName) (spelled : Option Content) → Lands w v by spelled
    → Lands (with_session w n s) v by spelled
lands_from w v n s by spelled h = record { count = h.count; old = h.old; new = h.new }

-- Where the session later is this one, and all others stay, the later state joins the one that is made.
pub joined_by : (w v : State) (n : IdName) (s : IdSession) → v.session n ≡ s → ((j : IdName) → (j ≡ n → ⊥) → v.session j ≡ w.session j) → (j : IdName)
    → v.session j ≡ (with_session w n s).session j
joined_by w v n s self others j =
    elim (name_cases j n) as (λ z. v.session j ≡ (with_session w n s).session j) [
      | inl e ↦ ap v.session e ∙ self ∙ sym (changed_session w n s) ∙ ap (with_session w n s).session (sym e)
      | inr h ↦ others j h ∙ sym (other_session w n j s h)
    ]

-- States that agree are joined by a step in which no time passes.
pub agrees : (w v : State) → v.now ≡ w.now → SameLandings w v → ((j : IdName) → v.session j ≡ w.session j) → Pass w v
agrees w v now same sessions = record { later = equal_is_least w.now v.now now; same = same; sessions = sessions }

-- One step, within the bounds, is a run.
pub one_step : (r : Terms) (w v : State) → Step r w v → IsBounded r v → Later r w v
one_step r w v step bounded = (v ∷ [], (step, bounded, refl))

-- No step is one too, of states that are one.
pub no_step : (r : Terms) (w : State) → Later r w w
no_step r w = ([], refl)

-- States that agree are a run, within the bounds.
pub agree_on : (r : Terms) (w v : State) → v.now ≡ w.now → SameLandings w v → ((j : IdName) → v.session j ≡ w.session j) → IsBounded r v → Later r w v
agree_on r w v now same sessions bounded = one_step r w v (Passes (agrees w v now same sessions)) bounded
