-- Signals one after another, and lists of a machine's children without one of them.
use Rattle.sl_live.specs.Turns.{Does, sent_by, told_off, without}
use Rattle.sl_live.specs.declared.children.Awaited.{Awaited}
use Rattle.sl_outside.proofs.ActLaws.{grows_none, grows_on}
use Rattle.sl_outside.specs.Acts.{Grows}
use Rattle.sl_outside.specs.declared.act.Act.{Act}
use Rattle.sl_trace.specs.declared.effects.Sent.{Sent}
use Rattle.std.proofs.Common.{ap, arith, refl, subst, sym, ◌∙◌}
use Rattle.std.proofs.lemmas.List.{map_more, take_all}
use Rattle.std.specs.List.{position, remove}
use Rattle.std.specs.Prelude.{List, None, Option, Some, get_or, length, map, take, [], ℕ, ◌++◌, ◌+◌, ◌<◌, ◌==◌, ◌∷◌, ◌≡◌, ◌≤◌}

-- ---- what it does

module _ {P : Type 0} (told : P → Option (List Act)) (faults : P → ℕ) (running : P → List ℕ) where
  pub does_same : (a : P) → Does told faults running a a []
  does_same a = record { grows = grows_none (told a) (told a) refl; later = omega arith; runs = refl }

  pub does_on : (a b c : P) (xs ys : List Act) → Does told faults running a b xs → Does told faults running b c ys → Does told faults running a c (xs ++ ys)
  does_on a b c xs ys first then = record {
    grows = grows_on (told a) (told b) (told c) xs ys first.grows then.grows;
    later = omega (arith, first.later, then.later);
    runs = then.runs ∙ first.runs;
  }

  -- one more of a list of them
  pub does_next : {X : Type 0} (f : X → Act) (a b c : P) (xs : List X) (i : ℕ) (d : X) → i < length xs
      → Does told faults running a b (map f (take i xs)) → Does told faults running b c (f (get_or xs i d) ∷ []) → Does told faults running a c (map f (take (i + 1) xs))
  does_next f a b c xs i d below first then =
      subst (λ zs. Does told faults running a c zs) (sym (map_more f xs i d below)) (does_on a b c (map f (take i xs)) (f (get_or xs i d) ∷ []) first then)

  -- all of them
  pub does_all : {X : Type 0} (f : X → Act) (a b : P) (xs : List X) (i : ℕ) → length xs ≤ i → Does told faults running a b (map f (take i xs)) → Does told faults running a b (map f xs)
  does_all f a b xs i end d = subst (λ ys. Does told faults running a b (map f ys)) (take_all i xs end) d

  -- a signal
  pub signalled : (a b : P) (s : Sent) → running b ≡ running a → Grows (told a) (told b) (sent_by s ∷ []) → faults a ≤ faults b → Does told faults running a b (sent_by s ∷ [])
  signalled a b s same grows later = record { grows = grows; later = later; runs = same }

-- ---- numbers, and awaited starts

pub without_some : (n : ℕ) (ns : List ℕ) (k : ℕ) → Some k ≡ position (λ m. m == n) ns → remove ns k ≡ without n ns
without_some n ns k is = subst (λ (o : Option ℕ). remove ns k ≡ elim o [ None ↦ ns | Some place ↦ remove ns place ]) is refl

pub without_none : (n : ℕ) (ns : List ℕ) → None ≡ position (λ m. m == n) ns → ns ≡ without n ns
without_none n ns is = subst (λ (o : Option ℕ). ns ≡ elim o [ None ↦ ns | Some place ↦ remove ns place ]) is refl

pub off_some : (n : ℕ) (ws : List Awaited) (k : ℕ) → Some k ≡ position (λ (w : Awaited). w.start.process == n) ws → remove ws k ≡ told_off n ws
off_some n ws k is = subst (λ (o : Option ℕ). remove ws k ≡ elim o [ None ↦ ws | Some place ↦ remove ws place ]) is refl

pub off_none : (n : ℕ) (ws : List Awaited) → None ≡ position (λ (w : Awaited). w.start.process == n) ws → ws ≡ told_off n ws
off_none n ws is = subst (λ (o : Option ℕ). ws ≡ elim o [ None ↦ ws | Some place ↦ remove ws place ]) is refl
