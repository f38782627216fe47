-- Choices by tests, and what tests of steps say.
use Rattle.sl_ballot_law.specs.PairLogs.Logs.{Log, Look}
use Rattle.sl_ballot_law.specs.PairLogs.States.{is_at, shown_block}
use Rattle.sl_ballot_law.specs.Pairs.State.{State, Stored, current}
use Rattle.sl_words.proofs.CaseLaws.{false_is_true, none_some}
use Rattle.sl_words.proofs.WordLaws.{and_true}
use Rattle.std.proofs.Common.{ap, refl, ◌∙◌}
use Rattle.std.proofs.lemmas.Bool.{eq-eqb, eqb-true}
use Rattle.std.specs.Prelude.{Bool, None, Option, Some, false, if◌then◌else◌, not, true, ℕ, ◌&&◌, ◌≡◌}

pub chosen : (P : State → Type 0) (a b c : Bool) (x y z v : State) → (a ≡ true → P x) → (a ≡ false → b ≡ true → P y) → (a ≡ false → b ≡ false → c ≡ true → P z)
    → (a ≡ false → b ≡ false → c ≡ false → P v) → P (if a then x else (if b then y else (if c then z else v)))
chosen P true b c x y z v one two three four = one refl
chosen P false true c x y z v one two three four = two refl refl
chosen P false false true x y z v one two three four = three refl refl refl
chosen P false false false x y z v one two three four = four refl refl refl

pub one_of : (P : State → Type 0) (a : Bool) (x y : State) → (a ≡ true → P x) → (a ≡ false → P y) → P (if a then x else y)
one_of P true x y one two = one refl
one_of P false x y one two = two refl

pub given_or : (P : State → Type 0) (o : Option Stored) (f : Stored → State) (v : State) → ((s : Stored) → o ≡ Some s → P (f s)) → (o ≡ None → P v)
    → P (elim o as (λ z. State) [ Some s ↦ f s | None ↦ v ])
given_or P (Some s) f v one two = one s refl
given_or P None f v one two = two refl

pub not_true : (b : Bool) → not b ≡ true → b ≡ false
not_true true h = absurd (false_is_true h)
not_true false h = refl

pub not_false : (b : Bool) → b ≡ false → not b ≡ true
not_false true h = absurd (false_is_true cc)
not_false false h = refl

pub at_true : (n : ℕ) (o : Option ℕ) → is_at n o ≡ true → o ≡ Some n
at_true n None h = absurd (false_is_true h)
at_true n (Some u) h = ap (λ z. Some z) (eqb-true u n h)

pub at_is : (n : ℕ) (o : Option ℕ) → o ≡ Some n → is_at n o ≡ true
at_is n o h = ap (is_at n) h ∙ eq-eqb n n refl

pub both_true : (a b : Bool) → a ≡ true → b ≡ true → (a && b) ≡ true
both_true true true h i = refl
both_true true false h i = absurd (false_is_true i)
both_true false b h i = absurd (false_is_true h)

-- What a look shows, if it shows something.
pub record ShownBlock (g : Log) (n session : ℕ) (w : State) (s : Stored) : Type 0 where
  pub look : Look
  pub at : g.looks session n ≡ Some look
  pub unwaiting : w.waits ≡ false
  pub unflying : w.flying ≡ false
  pub stands : current w ≡ Some s

shown_if : (g : Log) (n session : ℕ) (w : State) (s : Stored) (k : Look) → g.looks session n ≡ Some k → (b : Bool) → (not w.waits && not w.flying) ≡ b
    → (if b then current w else None) ≡ Some s → ShownBlock g n session w s
shown_if g n session w s k at false is h = absurd (none_some s h)
shown_if g n session w s k at true is h =
    let two = and_true (not w.waits) (not w.flying) is in
    record {
      look = k;
      at = at;
      unwaiting = not_true w.waits two.0;
      unflying = not_true w.flying two.1;
      stands = h;
    }

shown_by : (g : Log) (n session : ℕ) (w : State) (s : Stored) (o : Option Look) → g.looks session n ≡ o
    → elim o as (λ z. Option Stored) [ None ↦ None | Some k ↦ if not w.waits && not w.flying then current w else None ] ≡ Some s
    → ShownBlock g n session w s
shown_by g n session w s None at h = absurd (none_some s h)
shown_by g n session w s (Some k) at h = shown_if g n session w s k at (not w.waits && not w.flying) refl h

pub shown_is : (g : Log) (n session : ℕ) (w : State) (s : Stored) → shown_block g n session w ≡ Some s → ShownBlock g n session w s
shown_is g n session w s h = shown_by g n session w s (g.looks session n) refl h

-- .. and a look of the session is shown what stands, where none of its writes is in flight.
pub look_shown : (g : Log) (n session : ℕ) (w : State) (k : Look) → g.looks session n ≡ Some k → w.waits ≡ false → w.flying ≡ false
    → shown_block g n session w ≡ current w
look_shown g n session w k at unwaiting unflying =
    ap (λ o. elim o as (λ z. Option Stored) [ None ↦ None | Some l ↦ if not w.waits && not w.flying then current w else None ]) at
    ∙ ap (λ (b : Bool). if b then current w else None)
    (both_true (not w.waits) (not w.flying) (not_false w.waits unwaiting) (not_false w.flying unflying))
