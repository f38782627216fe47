-- What a move leaves of the connection of a name.
use Rattle.sl_due_facts.proofs.Acts.AddedAtEnd.{not_is}
use Rattle.sl_due_facts.proofs.Jobs.CallsHaveFacts.{find_mapped}
use Rattle.sl_due_facts.proofs.Jobs.JobsAreNumbered.{finds_none}
use Rattle.sl_words.proofs.Lists.{find_inside, kept_inside}
use Rattle.sl_words.proofs.Options.{mapped_value}
use Rattle.sl_trace.specs.WatchdogConnections.{Connection, after_move, connection_named, connections, renewed_connection}
use Rattle.sl_trace.specs.Traces.{Setting, Trace}
use Rattle.sl_trace.specs.declared.effects.Move.TheVariants.{Register, Renew, Unregister}
use Rattle.sl_run_law.proofs.Sessions.SessionNames.{same_name}
use Rattle.sl_words.proofs.CaseLaws.{not_both}
use Rattle.std.proofs.Common.{ap, refl, sym, ◌∙◌}
use Rattle.std.proofs.lemmas.List.Folds.{find-append}
use Rattle.std.proofs.lemmas.Slice.Eq.{bytes_eq-Decides}
use Rattle.std.specs.Option.{option_or}
use Rattle.std.specs.Prelude.{Bool, List, None, Option, Some, [], bytes_eq, cond, false, filter, find, if◌then◌else◌, is_some, not, option_map, true, ℕ, ◌∷◌, ◌≡◌}

-- The session's connection, by name.
abbrev pub connected : Setting → Trace → List ℕ → Option Connection
connected st t name = connection_named (connections st t) name

or_none : {A : Type 0} (o : Option A) → option_or o None ≡ o
or_none None = refl
or_none (Some a) = refl

-- ---- a name that is registered

pub register_named : (cs : List Connection) (name : List ℕ) (expiry : ℕ) → connection_named cs name ≡ None
    → connection_named (after_move cs (Register name expiry)) name ≡ Some (record { name = name; expiry = expiry })
register_named cs name expiry none =
    let new : Connection = record { name = name; expiry = expiry } in
    find-append (λ (c : Connection). bytes_eq c.name name) cs (new ∷ [])
    ∙ (ap (λ o. option_or o (find (λ (c : Connection). bytes_eq c.name name) (new ∷ []))) none
    ∙ ap (λ b. cond b (Some new) None) (same_name name))

pub register_other : (cs : List Connection) (name : List ℕ) (expiry : ℕ) (n : List ℕ) → bytes_eq name n ≡ false
    → connection_named (after_move cs (Register name expiry)) n ≡ connection_named cs n
register_other cs name expiry n other =
    let new : Connection = record { name = name; expiry = expiry } in
    find-append (λ (c : Connection). bytes_eq c.name n) cs (new ∷ [])
    ∙ (ap (λ b. option_or (connection_named cs n) (cond b (Some new) None)) other
    ∙ or_none (connection_named cs n))

-- ---- one that moves on

renewed_name : (name : List ℕ) (expiry : ℕ) (c : Connection) → (renewed_connection name expiry c).name ≡ c.name
renewed_name name expiry c = by (bytes_eq c.name name) where
  by : (b : Bool) → (if b then record c { expiry = expiry } else c).name ≡ c.name
  by true = refl
  by false = refl

pub renew_named : (cs : List Connection) (name : List ℕ) (expiry : ℕ) (n : List ℕ)
    → connection_named (after_move cs (Renew name expiry)) n ≡ option_map (renewed_connection name expiry) (connection_named cs n)
renew_named cs name expiry n =
    find_mapped (λ (c : Connection). bytes_eq c.name n) (renewed_connection name expiry) cs (λ c. ap (λ m. bytes_eq m n) (renewed_name name expiry c))

pub renew_own : (cs : List Connection) (name : List ℕ) (expiry : ℕ) (c : Connection) → connection_named (after_move cs (Renew name expiry)) name ≡ Some c → c.expiry ≡ expiry
renew_own cs name expiry c is =
    let was = mapped_value (renewed_connection name expiry) (connection_named cs name) c (sym (renew_named cs name expiry name) ∙ is) in
    let there = find_inside (λ (d : Connection). bytes_eq d.name name) cs was.0 was.1 in
    ap (λ (d : Connection). d.expiry) (sym was.2) ∙ ap (λ b. (if b then record { name = was.0.name; expiry = expiry } else was.0).expiry) there.1

pub renew_other : (cs : List Connection) (name : List ℕ) (expiry : ℕ) (n : List ℕ) → bytes_eq n name ≡ false
    → connection_named (after_move cs (Renew name expiry)) n ≡ connection_named cs n
renew_other cs name expiry n other = renew_named cs name expiry n ∙ by (connection_named cs n) refl where
  by : (o : Option Connection) → connection_named cs n ≡ o → option_map (renewed_connection name expiry) o ≡ o
  by None is = refl
  by (Some c) is =
      let there = find_inside (λ (d : Connection). bytes_eq d.name n) cs c is in
      let its : bytes_eq c.name name ≡ false = ap (λ m. bytes_eq m name) ((bytes_eq-Decides c.name n).0 there.1) ∙ other in
      ap (λ b. Some (if b then record { name = c.name; expiry = expiry } else c)) its

pub renew_some : (cs : List Connection) (name : List ℕ) (expiry : ℕ) (n : List ℕ)
    → is_some (connection_named (after_move cs (Renew name expiry)) n) ≡ is_some (connection_named cs n)
renew_some cs name expiry n = ap (λ o. is_some o) (renew_named cs name expiry n) ∙ by (connection_named cs n) where
  by : (o : Option Connection) → is_some (option_map (renewed_connection name expiry) o) ≡ is_some o
  by None = refl
  by (Some c) = refl

-- ---- one that is removed

find_kept : {A : Type 0} (p q : A → Bool) (xs : List A) → ((a : A) → q a ≡ true → p a ≡ true) → find q (filter p xs) ≡ find q xs
find_kept p q [] h = refl
find_kept p q (x ∷ xs) h = by (q x) (p x) refl refl (find_kept p q xs h) where
  by : (b c : Bool) → q x ≡ b → p x ≡ c → find q (filter p xs) ≡ find q xs → find q (if p x then x ∷ filter p xs else filter p xs) ≡ cond (q x) (Some x) (find q xs)
  by true true is keeps rest = ap (λ d. find q (if d then x ∷ filter p xs else filter p xs)) keeps ∙ (ap (λ d. cond d (Some x) (find q (filter p xs))) is ∙ ap (λ d. cond d (Some x) (find q xs)) (sym is))
  by true false is drops rest = absurd (not_both (p x) (h x is) drops)
  by false true is keeps rest = ap (λ d. find q (if d then x ∷ filter p xs else filter p xs)) keeps ∙ ap (λ o. cond (q x) (Some x) o) rest
  by false false is drops rest = ap (λ d. find q (if d then x ∷ filter p xs else filter p xs)) drops ∙ (rest ∙ ap (λ d. cond d (Some x) (find q xs)) (sym is))

pub remove_named : (cs : List Connection) (name : List ℕ) → connection_named (after_move cs (Unregister name)) name ≡ None
remove_named cs name =
    finds_none (λ (c : Connection). bytes_eq c.name name) (filter (λ (c : Connection). not (bytes_eq c.name name)) cs)
    (λ c there. not_is (bytes_eq c.name name) (kept_inside (λ (d : Connection). not (bytes_eq d.name name)) cs c there).1)

pub remove_other : (cs : List Connection) (name n : List ℕ) → bytes_eq n name ≡ false → connection_named (after_move cs (Unregister name)) n ≡ connection_named cs n
remove_other cs name n other =
    find_kept (λ (c : Connection). not (bytes_eq c.name name)) (λ (c : Connection). bytes_eq c.name n) cs
    (λ c is. ap (λ b. not b) (ap (λ m. bytes_eq m name) ((bytes_eq-Decides c.name n).0 is) ∙ other))
