-- The signals given so far, and what one more does.
use Rattle.sl_alone.proofs.ListFacts.{contains_cases, contains_first, contains_later, contains_none}
use Rattle.sl_alone.specs.Calls.{Began, EscalateCall, Exited, Stepped, begun_at, holders_left}
use Rattle.sl_alone.specs.DueSignals.{due_among, holder_in, is_grace_over, is_told_term, is_untold, kill_among, last_given, signal_due, signal_to, signals_given, with_due}
use Rattle.sl_alone.specs.SignalLaws.{NoneTwice, kill_to, term_to}
use Rattle.sl_alone.specs.declared.holder.Holder.{Holder}
use Rattle.sl_trace.specs.declared.effects.Sent.{Sent}
use Rattle.sl_trace.specs.declared.effects.Signal.TheVariants.{Kill, Term}
use Rattle.sl_trace.specs.declared.effects.Signal.{Signal}
use Rattle.sl_words.proofs.CaseLaws.{false_is_true, none_some, some_value}
use Rattle.std.proofs.Common.{Bool, Contains, List, None, Option, Some, ap, cond, false, find, if◌then◌else◌, inl, inr, is_none, map, refl, subst, sym, true, [], ℕ, ◌++◌, ◌==◌, ◌∙◌, ◌∷◌, ◌≡◌, ◌⊎◌}
use Rattle.std.proofs.lemmas.Bool.{eq-eqb, eqb-true}

-- The first of those left whose holder passes a test.
pub record IsFirst (given : List Sent) (test : Holder → Bool) (left : List ℕ) (process : ℕ) : Type 0 where
  pub before : List ℕ
  pub after : List ℕ
  pub split : left ≡ before ++ process ∷ after
  pub passes : test (holder_in given process) ≡ true
  pub others : (other : ℕ) → Contains before other → test (holder_in given other) ≡ false

-- Who is found is the first that passes.
pub find_first : (given : List Sent) (test : Holder → Bool) (left : List ℕ) (h : Holder) → find test (map (holder_in given) left) ≡ Some h
    → (h ≡ holder_in given h.process) × IsFirst given test left h.process
find_first given test [] h found = absurd (none_some h found)
find_first given test (process ∷ left) h found = by (test (holder_in given process)) refl found (find_first given test left h)
  where
    by : (b : Bool) → test (holder_in given process) ≡ b → cond b (Some (holder_in given process)) (find test (map (holder_in given) left)) ≡ Some h
        → (find test (map (holder_in given) left) ≡ Some h → (h ≡ holder_in given h.process) × IsFirst given test left h.process)
        → (h ≡ holder_in given h.process) × IsFirst given test (process ∷ left) h.process
    by true is here rest =
        let same : holder_in given process ≡ h = some_value (holder_in given process) h here in
        subst (λ k. (k ≡ holder_in given k.process) × IsFirst given test (process ∷ left) k.process) same
        (refl, record { before = []; after = left; split = refl; passes = is; others = λ other none. absurd (contains_none other none) })
    by false is there rest =
        let known = rest there in (
          known.0,
          record {
            before = process ∷ known.1.before;
            after = known.1.after;
            split = ap (λ ps. process ∷ ps) known.1.split;
            passes = known.1.passes;
            others = λ other among. elim (contains_cases process known.1.before other among)
                [ inl first ↦ subst (λ p. test (holder_in given p) ≡ false) first is | inr later ↦ known.1.others other later ];
          },
        )

-- Where none is found none passes.
pub find_none : (given : List Sent) (test : Holder → Bool) (left : List ℕ) → find test (map (holder_in given) left) ≡ None
    → (process : ℕ) → Contains left process → test (holder_in given process) ≡ false
find_none given test [] none process there = absurd (contains_none process there)
find_none given test (first ∷ left) none process there = by (test (holder_in given first)) refl none (λ later. find_none given test left later process)
  where
    by : (b : Bool) → test (holder_in given first) ≡ b → cond b (Some (holder_in given first)) (find test (map (holder_in given) left)) ≡ None
        → (find test (map (holder_in given) left) ≡ None → Contains left process → test (holder_in given process) ≡ false)
        → test (holder_in given process) ≡ false
    by true is some rest = absurd (none_some (holder_in given first) (sym some))
    by false is later rest = elim (contains_cases first left process there)
        [ inl here ↦ subst (λ p. test (holder_in given p) ≡ false) here is | inr behind ↦ rest later behind ]

-- Term is due: to the first that was given none.
pub record TermDue (given : List Sent) (left : List ℕ) (s : Sent) : Type 0 where
  pub is : s ≡ term_to s.process
  pub first : IsFirst given is_untold left s.process

-- Kill is due: the grace is over, each was given one, and it goes to the first that was given term alone.
pub record KillDue (is_over : Bool) (given : List Sent) (left : List ℕ) (s : Sent) : Type 0 where
  pub is : s ≡ kill_to s.process
  pub over : is_over ≡ true
  pub told : (process : ℕ) → Contains left process → is_untold (holder_in given process) ≡ false
  pub first : IsFirst given is_told_term left s.process

-- A signal that is due is one of the two.
pub due_cases : (is_over : Bool) (given : List Sent) (left : List ℕ) (s : Sent) → due_among is_over (map (holder_in given) left) ≡ Some s
    → TermDue given left s ⊎ KillDue is_over given left s
due_cases is_over given left s due = by (find is_untold (map (holder_in given) left)) refl due
  where
    kill : (o : Option Holder) → find is_told_term (map (holder_in given) left) ≡ o → find is_untold (map (holder_in given) left) ≡ None
        → (b : Bool) → is_over ≡ b → (if b then elim o [ Some h ↦ Some (signal_to Kill h) | None ↦ None ] else None) ≡ Some s → KillDue is_over given left s
    kill (Some h) found none true over is =
        let same : signal_to Kill h ≡ s = some_value (signal_to Kill h) s is in
        subst (KillDue is_over given left) same (record {
          is = refl;
          over = over;
          told = find_none given is_untold left none;
          first = (find_first given is_told_term left h found).1;
        })
    kill None found none true over is = absurd (none_some s is)
    kill o found none false over is = absurd (none_some s is)

    by : (o : Option Holder) → find is_untold (map (holder_in given) left) ≡ o
        → (elim (elim o as (λ _. Option Sent) [ Some h ↦ Some (signal_to Term h) | None ↦ None ]) as (λ _. Option Sent) [ Some t ↦ Some t | None ↦ if is_over then kill_among (map (holder_in given) left) else None ]) ≡ Some s
        → TermDue given left s ⊎ KillDue is_over given left s
    by (Some h) found is =
        let same : signal_to Term h ≡ s = some_value (signal_to Term h) s is in
        inl (subst (TermDue given left) same (record { is = refl; first = (find_first given is_untold left h found).1 }))
    by None found is = inr (kill (find is_told_term (map (holder_in given) left)) refl found is_over refl is)

-- What was given last was given.
pub last_contained : (given : List Sent) (process : ℕ) (signal : Signal) → last_given process given ≡ Some signal
    → Contains given (record { process = process; signal = signal })
last_contained [] process signal last = absurd (none_some signal last)
last_contained (s ∷ given) process signal last = by (s.process == process) refl last (last_contained given process signal)
  where
    by : (b : Bool) → (s.process == process) ≡ b → (if b then Some s.signal else last_given process given) ≡ Some signal
        → (last_given process given ≡ Some signal → Contains given (record { process = process; signal = signal }))
        → Contains (s ∷ given) (record { process = process; signal = signal })
    by true is here rest =
        let same : s ≡ record { process = process; signal = signal } =
        λ i. record { process = eqb-true s.process process is i; signal = some_value s.signal signal here i } in
        subst (Contains (s ∷ given)) same (contains_first s given)
    by false is there rest = contains_later s given (record { process = process; signal = signal }) (rest there)

-- Who was given a signal has a last one.
pub contained_last : (given : List Sent) (process : ℕ) (signal : Signal) → Contains given (record { process = process; signal = signal })
    → last_given process given ≡ None → ⊥
contained_last [] process signal there none = contains_none (record { process = process; signal = signal }) there
contained_last (s ∷ given) process signal there none = by (s.process == process) refl none (λ later. contained_last given process signal later)
  where
    by : (b : Bool) → (s.process == process) ≡ b → (if b then Some s.signal else last_given process given) ≡ None
        → (Contains given (record { process = process; signal = signal }) → last_given process given ≡ None → ⊥) → ⊥
    by true is some rest = none_some s.signal (sym some)
    by false is later rest = elim (contains_cases s given (record { process = process; signal = signal }) there)
        [ inl here ↦ false_is_true (sym is ∙ eq-eqb s.process process (ap (λ t. t.process) here)) | inr behind ↦ rest behind later ]

-- Who was given nothing has no last signal.
pub untold_none : (last : Option Signal) → is_none last ≡ true → last ≡ None
untold_none None h = refl
untold_none (Some s) h = absurd (false_is_true h)

-- Whose test for term holds was given term last.
pub term_last : (process : ℕ) (last : Option Signal) → is_told_term (record { process = process; last = last }) ≡ true → last ≡ Some Term
term_last process None h = absurd (false_is_true h)
term_last process (Some Term) h = refl
term_last process (Some Kill) h = absurd (false_is_true h)

-- Who was told something, and not term last, was given kill last.
pub kill_last : (process : ℕ) (last : Option Signal) → is_none last ≡ false → is_told_term (record { process = process; last = last }) ≡ false → last ≡ Some Kill
kill_last process None told h = absurd (false_is_true (sym told))
kill_last process (Some Term) told h = absurd (false_is_true (sym h))
kill_last process (Some Kill) told h = refl

-- Term is not kill.
pub term_is_kill : Term ≡ Kill → ⊥
term_is_kill same = absurd cc

-- What holds of the signals given: kill is the last that a process is given, and comes after term.
pub record GivenWell (given : List Sent) : Type 0 where
  pub last : (process : ℕ) → Contains given (kill_to process) → last_given process given ≡ Some Kill
  pub term : (process : ℕ) → Contains given (kill_to process) → Contains given (term_to process)

-- A term more.
well_term : (given : List Sent) (left : List ℕ) (s : Sent) → TermDue given left s → GivenWell given → GivenWell (s ∷ given)
well_term given left s due well = subst (λ t. GivenWell (t ∷ given)) (sym due.is) (record {
  last = λ process there. keeps process (elim (contains_cases (term_to s.process) given (kill_to process) there)
      [ inl here ↦ absurd (term_is_kill (ap (λ t. t.signal) here)) | inr later ↦ well.last process later ]);
  term = λ process there. contains_later (term_to s.process) given (term_to process) (elim (contains_cases (term_to s.process) given (kill_to process) there)
      [ inl here ↦ absurd (term_is_kill (ap (λ t. t.signal) here)) | inr later ↦ well.term process later ]);
})
  where
    untold : last_given s.process given ≡ None
    untold = untold_none (last_given s.process given) due.first.passes

    keeps : (process : ℕ) → last_given process given ≡ Some Kill → last_given process (term_to s.process ∷ given) ≡ Some Kill
    keeps process killed = by (s.process == process) refl
      where
        by : (b : Bool) → (s.process == process) ≡ b → (if b then Some Term else last_given process given) ≡ Some Kill
        by true is = absurd (none_some Kill (sym untold ∙ subst (λ p. last_given p given ≡ Some Kill) (sym (eqb-true s.process process is)) killed))
        by false is = killed

-- A kill more.
well_kill : (is_over : Bool) (given : List Sent) (left : List ℕ) (s : Sent) → KillDue is_over given left s → GivenWell given → GivenWell (s ∷ given)
well_kill is_over given left s due well = subst (λ t. GivenWell (t ∷ given)) (sym due.is) (record {
  last = λ process there. by process (s.process == process) refl (contains_cases (kill_to s.process) given (kill_to process) there);
  term = λ process there. contains_later (kill_to s.process) given (term_to process) (elim (contains_cases (kill_to s.process) given (kill_to process) there)
      [ inl here ↦ subst (λ p. Contains given (term_to p)) (ap (λ t. t.process) here) termed | inr later ↦ well.term process later ]);
})
  where
    termed : Contains given (term_to s.process)
    termed = last_contained given s.process Term (term_last s.process (last_given s.process given) due.first.passes)

    by : (process : ℕ) (b : Bool) → (s.process == process) ≡ b → (kill_to s.process ≡ kill_to process) ⊎ Contains given (kill_to process)
        → (if b then Some Kill else last_given process given) ≡ Some Kill
    by process true is there = refl
    by process false is (inl here) = absurd (false_is_true (sym is ∙ eq-eqb s.process process (ap (λ t. t.process) here)))
    by process false is (inr later) = well.last process later

-- One more signal that is due, or none.
well_more : (is_over : Bool) (given : List Sent) (left : List ℕ) (due : Option Sent) → due_among is_over (map (holder_in given) left) ≡ due
    → GivenWell given → GivenWell (with_due due given)
well_more is_over given left None is well = well
well_more is_over given left (Some s) is well =
    elim (due_cases is_over given left s is) [ inl term ↦ well_term given left s term well | inr kill ↦ well_kill is_over given left s kill well ]

-- Whatever was called, the signals were given well.
pub given_well : (grace : ℕ) (calls : List EscalateCall) → GivenWell (signals_given grace calls)
given_well grace [] = record {
  last = λ process there. absurd (contains_none (kill_to process) there);
  term = λ process there. absurd (contains_none (kill_to process) there);
}
given_well grace (Began now holders ∷ calls) = given_well grace calls
given_well grace (Stepped now ∷ calls) =
    well_more (is_grace_over grace (begun_at calls) now) (signals_given grace calls) (holders_left calls) (signal_due grace calls now) refl (given_well grace calls)
given_well grace (Exited process ∷ calls) = given_well grace calls

-- A signal that is due was not given before.
fresh : (is_over : Bool) (given : List Sent) (left : List ℕ) (s : Sent) → GivenWell given → due_among is_over (map (holder_in given) left) ≡ Some s → Contains given s → ⊥
fresh is_over given left s well due there = elim (due_cases is_over given left s due) [
  | inl term ↦ contained_last given s.process Term (subst (Contains given) term.is there) (untold_none (last_given s.process given) term.first.passes)
  | inr kill ↦ term_is_kill (some_value Term Kill
      (sym (term_last s.process (last_given s.process given) kill.first.passes) ∙ well.last s.process (subst (Contains given) kill.is there)))
]

-- One more signal that is due, or none, stands among the others once.
once_more : (is_over : Bool) (given : List Sent) (left : List ℕ) (due : Option Sent) → due_among is_over (map (holder_in given) left) ≡ due
    → GivenWell given → NoneTwice given → NoneTwice (with_due due given)
once_more is_over given left None is well once = once
once_more is_over given left (Some s) is well once = (fresh is_over given left s well is, once)

-- No signal is given twice.
pub given_once : (grace : ℕ) (calls : List EscalateCall) → NoneTwice (signals_given grace calls)
given_once grace [] = tt
given_once grace (Began now holders ∷ calls) = given_once grace calls
given_once grace (Stepped now ∷ calls) =
    once_more (is_grace_over grace (begun_at calls) now) (signals_given grace calls) (holders_left calls) (signal_due grace calls now) refl
    (given_well grace calls) (given_once grace calls)
given_once grace (Exited process ∷ calls) = given_once grace calls
