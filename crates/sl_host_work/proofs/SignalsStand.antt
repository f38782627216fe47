-- Signals go to the holders in rising order.
use Rattle.sl_host_law.specs.StepParts.Signals.{over, sending, telling}
use Rattle.sl_host_state.specs.StepQuestions.{stopper_in}
use Rattle.sl_host_state.specs.KeptState.{HostState, state_of}
use Rattle.sl_host_state.specs.MadeEffects.{with_signal, with_start}
use Rattle.sl_host_work.proofs.NumbersRise.{IsLeast, from_rising, kept_all, least_none, least_some, next_above, none_above, rising_rises, rising_there, those_above}
use Rattle.sl_host_work.specs.Holders.{SameButSignals, holders_under}
use Rattle.sl_words.proofs.Lists.{contains_map, contains_none, in_map, kept, kept_inside}
use Rattle.sl_tables.specs.Holdings.{fits, least_holder}
use Rattle.sl_trace.specs.Traces.{first_child, is_orphan}
use Rattle.sl_trace.specs.declared.effects.Grant.{Grant}
use Rattle.sl_trace.specs.declared.effects.Signal.TheVariants.{Kill, Term}
use Rattle.sl_trace.specs.declared.effects.Signal.{Signal}
use Rattle.sl_host.specs.BookQuestions.{alone}
use Rattle.sl_host.specs.Host.{Becomes, HostView}
use Rattle.sl_host.specs.NextHolder.{above}
use Rattle.sl_host.specs.Views.{books_of}
use Rattle.std.proofs.Common.{ap, arith, refl, subst, sym, ◌∙◌}
use Rattle.sl_trace.specs.declared.command.Command.{Command}
use Rattle.std.proofs.lemmas.Bool.Decides.{nat_tests}
use Rattle.std.proofs.lemmas.List.{map-id}
use Rattle.std.specs.Prelude.{Bool, Contains, Err, List, None, Option, Result, Some, [], false, filter, length, map, nat_lt, not, true, ℕ, ◌&&◌, ◌+◌, ◌<◌, ◌==◌, ◌∷◌, ◌≡◌}

-- ---- one process

abbrev told_so : Option (List ℕ) → ℕ → HostState → HostState
told_so o p h =
    elim o as (λ z. HostState) [
      | None ↦ with_signal p Term h
      | Some program ↦ with_start (record { process = first_child + h.started; program = program; job = None; stands_for = Some p }) h
    ]

-- A start of the kill program, with the next child's number.
abbrev pub told_start : ℕ → List ℕ → ℕ → HostState → HostState
told_start p program n h = with_start (record { process = n; program = program; job = None; stands_for = Some p }) h

pub told_by_program : (old new : HostView) (p n : ℕ) (program : List ℕ) → Some program ≡ stopper_in (alone (books_of old)) p → n ≡ first_child + old.kept.started
    → Becomes old new (told_start p program n) → Becomes old new (telling p)
told_by_program old new p n program is number one read =
    one read
    ∙ (ap (λ k. told_start p program k (state_of read old.kept)) number
    ∙ ap (λ o. told_so o p (state_of read old.kept)) is)

pub told_by_term : (old new : HostView) (p : ℕ) → None ≡ stopper_in (alone (books_of old)) p → Becomes old new (with_signal p Term) → Becomes old new (telling p)
told_by_term old new p is one read = one read ∙ ap (λ o. told_so o p (state_of read old.kept)) is

-- ---- what is sent leaves the holdings, the jobs and the members

pub record Stays (a b : HostState) : Type 0 where
  pub holdings : a.holdings ≡ b.holdings
  pub jobs : a.jobs ≡ b.jobs
  pub members : a.members ≡ b.members

sent_stays : (s : Signal) (p : ℕ) (h : HostState) → Stays (sending p s h) h
sent_stays Term p h = by (stopper_in h p) where
  by : (o : Option (List ℕ)) → Stays (told_so o p h) h
  by None = record { holdings = refl; jobs = refl; members = refl }
  by (Some program) = record { holdings = refl; jobs = map-id h.jobs; members = refl }
sent_stays Kill p h = record { holdings = refl; jobs = refl; members = refl }

-- How code reads a line does not matter here.
none_read : List ℕ → Result Command ℕ
none_read text = Err 0

-- A term and a kill.
pub sent_term : (old new : HostView) (p : ℕ) (s : Signal) → s ≡ Term → Becomes old new (telling p) → Becomes old new (sending p s)
sent_term old new p s is one read = one read ∙ ap (λ t. sending p t (state_of read old.kept)) (sym is)

pub sent_kill : (old new : HostView) (p : ℕ) (s : Signal) → s ≡ Kill → Becomes old new (with_signal p s) → Becomes old new (sending p s)
sent_kill old new p s is one read =
    one read
    ∙ (ap (λ t. with_signal p t (state_of read old.kept)) is
    ∙ ap (λ t. sending p t (state_of read old.kept)) (sym is))

pub sent_same : (old new : HostView) (s : Signal) (p : ℕ) → Becomes old new (sending p s) → SameButSignals old new
sent_same old new s p one =
    let st : Stays (sending p s (state_of none_read old.kept)) (state_of none_read old.kept) = sent_stays s p (state_of none_read old.kept) in
    let e : state_of none_read new.kept ≡ sending p s (state_of none_read old.kept) = one none_read in
    (ap (λ h. h.holdings) e ∙ st.holdings, ap (λ h. h.jobs) e ∙ st.jobs, ap (λ h. h.members) e ∙ st.members)

-- ---- who comes next

-- A holding under the session of a process above a.
pub record IsAbove (session a : ℕ) (held : List Grant) (d : ℕ) : Type 0 where
  pub grant : Grant
  pub there : Contains held grant
  pub process : grant.process ≡ d
  pub under : (grant.session == session) ≡ true
  pub more : a < d

all_four : (a b : Bool) → (((a && b) && true) && true) ≡ true → (a ≡ true) × (b ≡ true)
all_four true true h = (refl, refl)
all_four true false h = absurd cc
all_four false b h = absurd cc

four_hold : (a b : Bool) → a ≡ true → b ≡ true → (((a && b) && true) && true) ≡ true
four_hold a b h k = ap (λ x. ((x && b) && true) && true) h ∙ ap (λ x. ((true && x) && true) && true) k

sought_above : (session a : ℕ) (held : List Grant) (d : ℕ) → Contains (map (λ g. g.process) (filter (fits (above session a)) held)) d → IsAbove session a held d
sought_above session a held d there =
    let found = in_map (λ (g : Grant). g.process) (filter (fits (above session a)) held) d there in
    let its = kept_inside (fits (above session a)) held found.0 found.1 in
    let both = all_four (nat_lt a found.0.process) (found.0.session == session) its.1 in
    let less : a < found.0.process = by_test a found.0.process both.0 in
    record { grant = found.0; there = its.0; process = found.2; under = both.1; more = subst (λ z. a < z) found.2 less }
  where
    by_test : (a p : ℕ) → nat_lt a p ≡ true → a < p
    by_test a p h = grind (arith, nat_tests)

above_sought : (session a : ℕ) (held : List Grant) (d : ℕ) → IsAbove session a held d → Contains (map (λ g. g.process) (filter (fits (above session a)) held)) d
above_sought session a held d h =
    subst (λ z. Contains (map (λ (g : Grant). g.process) (filter (fits (above session a)) held)) z) h.process
    (contains_map (λ (g : Grant). g.process) (filter (fits (above session a)) held) h.grant
    (kept (fits (above session a)) held h.grant (four_hold (nat_lt a h.grant.process) (h.grant.session == session) (by_order a h.grant.process (subst (λ z. a < z) (sym h.process) h.more)) h.under) h.there))
  where
    by_order : (a p : ℕ) → a < p → nat_lt a p ≡ true
    by_order a p h = grind (arith, nat_tests)

not_zero : (n : ℕ) → not (n == 0) ≡ true → 0 < n
not_zero n h = grind (arith, nat_tests)

above_zero : (n a : ℕ) → a < n → not (n == 0) ≡ true
above_zero n a h = grind (arith, nat_tests)

holder_above : (session a : ℕ) (held : List Grant) (d : ℕ) → Contains (holders_under session held) d → a < d → IsAbove session a held d
holder_above session a held d there more =
    let found = in_map (λ (g : Grant). g.process) (filter (λ (g : Grant). not (is_orphan g)) (filter (λ (g : Grant). g.session == session) held)) d
    (from_rising (map (λ g. g.process) (filter (λ g. not (is_orphan g)) (filter (λ g. g.session == session) held))) d there) in
    let own = kept_inside (λ (g : Grant). not (is_orphan g)) (filter (λ (g : Grant). g.session == session) held) found.0 found.1 in
    let its = kept_inside (λ (g : Grant). g.session == session) held found.0 own.0 in
    record { grant = found.0; there = its.0; process = found.2; under = its.1; more = more }

above_holder : (session a : ℕ) (held : List Grant) (d : ℕ) → IsAbove session a held d → Contains (holders_under session held) d
above_holder session a held d h =
    rising_there (map (λ g. g.process) (filter (λ g. not (is_orphan g)) (filter (λ g. g.session == session) held))) d
    (subst (λ z. Contains (map (λ (g : Grant). g.process) (filter (λ (g : Grant). not (is_orphan g)) (filter (λ (g : Grant). g.session == session) held))) z) h.process
    (contains_map (λ (g : Grant). g.process) (filter (λ (g : Grant). not (is_orphan g)) (filter (λ (g : Grant). g.session == session) held)) h.grant
    (kept (λ (g : Grant). not (is_orphan g)) (filter (λ (g : Grant). g.session == session) held) h.grant
    (above_zero h.grant.process a (subst (λ z. a < z) (sym h.process) h.more))
    (kept (λ (g : Grant). g.session == session) held h.grant h.under h.there))))

-- At first all of them are to come.
pub holders_first : (session : ℕ) (held : List Grant) → those_above 0 (holders_under session held) ≡ holders_under session held
holders_first session held = kept_all 0 (holders_under session held) positive where
  positive : (d : ℕ) → Contains (holders_under session held) d → 0 < d
  positive d there =
      let found = in_map (λ (g : Grant). g.process) (filter (λ (g : Grant). not (is_orphan g)) (filter (λ (g : Grant). g.session == session) held)) d
      (from_rising (map (λ g. g.process) (filter (λ g. not (is_orphan g)) (filter (λ g. g.session == session) held))) d there) in
      let own = kept_inside (λ (g : Grant). not (is_orphan g)) (filter (λ (g : Grant). g.session == session) held) found.0 found.1 in
      subst (λ z. 0 < z) found.2 (not_zero found.0.process own.1)

-- The least one above a comes next.
pub holders_next : (session a : ℕ) (held : List Grant) (p : ℕ) → Some p ≡ least_holder (above session a) held → those_above a (holders_under session held) ≡ p ∷ those_above p (holders_under session held)
holders_next session a held p is =
    let l : IsLeast (map (λ g. g.process) (filter (fits (above session a)) held)) p = least_some (map (λ g. g.process) (filter (fits (above session a)) held)) p (sym is) in
    let at : IsAbove session a held p = sought_above session a held p l.there in
    next_above a p (holders_under session held) (rising_rises (map (λ g. g.process) (filter (λ g. not (is_orphan g)) (filter (λ g. g.session == session) held)))) at.more (above_holder session a held p at)
    (λ d there more. l.first d (above_sought session a held d (holder_above session a held d there more)))

-- Where there is none, none comes.
pub holders_none : (session a : ℕ) (held : List Grant) → None ≡ least_holder (above session a) held → those_above a (holders_under session held) ≡ []
holders_none session a held is =
    none_above a (holders_under session held)
    (λ d there more. contains_none d (subst (λ zs. Contains zs d) (least_none (map (λ g. g.process) (filter (fits (above session a)) held)) (sym is)) (above_sought session a held d (holder_above session a held d there more))))

-- ---- the pass

-- Whom it comes to next, where the holdings are the same still.
pub comes_next : (session a : ℕ) (held held' : List Grant) (p : ℕ) (o : Option ℕ) → o ≡ Some p → o ≡ least_holder (above session a) held' → held' ≡ held
    → those_above a (holders_under session held) ≡ p ∷ those_above p (holders_under session held)
comes_next session a held held' p o some is same = holders_next session a held p (sym some ∙ (is ∙ ap (λ g. least_holder (above session a) g) same))

pub comes_none : (session a : ℕ) (held held' : List Grant) (o : Option ℕ) → o ≡ None → o ≡ least_holder (above session a) held' → held' ≡ held → those_above a (holders_under session held) ≡ []
comes_none session a held held' o none is same = holders_none session a held (sym none ∙ (is ∙ ap (λ g. least_holder (above session a) g) same))

pub first_length : (session : ℕ) (held : List Grant) → length (those_above 0 (holders_under session held)) ≡ length (holders_under session held)
first_length session held = ap length (holders_first session held)

pub one_of_length : (xs ys : List ℕ) (p : ℕ) → xs ≡ p ∷ ys → length xs ≡ length ys + 1
one_of_length xs ys p is = ap length is ∙ (let e : length (p ∷ ys) ≡ length ys + 1 = grind arith in e)

-- One is sent the signal.
pub over_one : (s : Signal) (xs ys : List ℕ) (p : ℕ) (a b : HostState) → xs ≡ p ∷ ys → b ≡ sending p s a → over xs (λ q. sending q s) a ≡ over ys (λ q. sending q s) b
over_one s xs ys p a b is one = ap (λ ns. over ns (λ q. sending q s) a) is ∙ ap (λ h. over ys (λ q. sending q s) h) (sym one)
