-- Laws of moves.
use Rattle.sl_trace.specs.WatchdogConnections.{Connection, connection_named, renewed_connection}
use Rattle.sl_trace.specs.declared.effects.Move.TheVariants.{Register, Renew, Unregister}
use Rattle.sl_wdmd.specs.Moves.{AreApart, NamesStay, OthersStay, OwnMoves, StayApart, names, lasting_until, other_names, others}
use Rattle.sl_words.proofs.CaseLaws.{none_some}
use Rattle.std.proofs.Common.{Bool, List, None, Option, Some, ap, bytes_eq, cond, false, if◌then◌else◌, map, not, refl, sym, true, [], ℕ, ◌++◌, ◌∙◌, ◌∷◌, ◌≡◌}
use Rattle.std.proofs.lemmas.List.Folds.{find-append}
use Rattle.std.specs.Option.{option_map}
use Rattle.std.specs.Cmp.Lexicographic.{nat_list_eq_equiv}

-- A name is itself.
pub same_name : (name : List ℕ) → bytes_eq name name ≡ true
same_name name = nat_list_eq_equiv.refl name

-- A connection of a name is none of the others.
others_register : (cs : List Connection) (name : List ℕ) (expiry : ℕ) → others name (cs ++ record { name = name; expiry = expiry } ∷ []) ≡ others name cs
others_register [] name expiry = rw (same_name name) refl
others_register (c ∷ cs) name expiry = elim (bytes_eq c.name name)
    as (λ b. cond (not b) (c ∷ others name (cs ++ record { name = name; expiry = expiry } ∷ [])) (others name (cs ++ record { name = name; expiry = expiry } ∷ []))
    ≡ cond (not b) (c ∷ others name cs) (others name cs))
    [ true ↦ others_register cs name expiry | false ↦ ap (λ xs. c ∷ xs) (others_register cs name expiry) ]

-- A renewal changes none of the others.
others_renew : (cs : List Connection) (name : List ℕ) (expiry : ℕ) → others name (map (renewed_connection name expiry) cs) ≡ others name cs
others_renew [] name expiry = refl
others_renew (c ∷ cs) name expiry = by (bytes_eq c.name name) refl (others_renew cs name expiry)
  where
    by : (b : Bool) → bytes_eq c.name name ≡ b → others name (map (renewed_connection name expiry) cs) ≡ others name cs
        → others name (map (renewed_connection name expiry) (c ∷ cs)) ≡ others name (c ∷ cs)
    by true is rest = rw (is, is) rest
    by false is rest = rw (is, is) (ap (λ xs. c ∷ xs) rest)

-- The others of the others are the others.
others_others : (cs : List Connection) (name : List ℕ) → others name (others name cs) ≡ others name cs
others_others [] name = refl
others_others (c ∷ cs) name = by (bytes_eq c.name name) refl (others_others cs name)
  where
    by : (b : Bool) → bytes_eq c.name name ≡ b → others name (others name cs) ≡ others name cs → others name (others name (c ∷ cs)) ≡ others name (c ∷ cs)
    by true is rest = rw is rest
    by false is rest = rw (is, is) (ap (λ xs. c ∷ xs) rest)

-- A move leaves the others.
pub others_stay : OthersStay
others_stay cs (Register name expiry) = others_register cs name expiry
others_stay cs (Renew name expiry) = others_renew cs name expiry
others_stay cs (Unregister name) = others_others cs name

-- What is said where none is found: neither the first passes nor any other.
none_parts : {A : Type 0} (b : Bool) (a : A) (o : Option A) → cond b (Some a) o ≡ None → (b ≡ false) × (o ≡ None)
none_parts true a o h = absurd (none_some a (sym h))
none_parts false a o h = (refl, h)

-- A registered name stands behind the others.
names_register : (cs : List Connection) (c : Connection) → names (cs ++ c ∷ []) ≡ names cs ++ c.name ∷ []
names_register [] c = refl
names_register (d ∷ cs) c = ap (λ ns. d.name ∷ ns) (names_register cs c)

-- A renewal changes no name.
names_renew : (cs : List Connection) (name : List ℕ) (expiry : ℕ) → names (map (renewed_connection name expiry) cs) ≡ names cs
names_renew [] name expiry = refl
names_renew (c ∷ cs) name expiry = elim (bytes_eq c.name name)
    as (λ b. (let d : Connection = if b then record c { expiry = expiry } else c in d.name) ∷ names (map (renewed_connection name expiry) cs) ≡ c.name ∷ names cs)
    [ true ↦ ap (λ ns. c.name ∷ ns) (names_renew cs name expiry) | false ↦ ap (λ ns. c.name ∷ ns) (names_renew cs name expiry) ]

-- A removal takes out the name.
names_unregister : (cs : List Connection) (name : List ℕ) → names (others name cs) ≡ other_names name (names cs)
names_unregister [] name = refl
names_unregister (c ∷ cs) name = elim (bytes_eq c.name name)
    as (λ b. names (cond (not b) (c ∷ others name cs) (others name cs)) ≡ cond (not b) (c.name ∷ other_names name (names cs)) (other_names name (names cs)))
    [ true ↦ names_unregister cs name | false ↦ ap (λ ns. c.name ∷ ns) (names_unregister cs name) ]

-- No name changes its place.
pub names_stay : NamesStay
names_stay cs (Register name expiry) = names_register cs (record { name = name; expiry = expiry })
names_stay cs (Renew name expiry) = names_renew cs name expiry
names_stay cs (Unregister name) = names_unregister cs name

-- The renewed connection is found with its new expiry.
own_renew : (cs : List Connection) (name : List ℕ) (expiry : ℕ)
    → connection_named (map (renewed_connection name expiry) cs) name ≡ option_map (lasting_until expiry) (connection_named cs name)
own_renew [] name expiry = refl
own_renew (c ∷ cs) name expiry = by (bytes_eq c.name name) refl (own_renew cs name expiry)
  where
    by : (b : Bool) → bytes_eq c.name name ≡ b
        → connection_named (map (renewed_connection name expiry) cs) name ≡ option_map (lasting_until expiry) (connection_named cs name)
        → connection_named (map (renewed_connection name expiry) (c ∷ cs)) name ≡ option_map (lasting_until expiry) (connection_named (c ∷ cs) name)
    by true is rest = rw (is, is) refl
    by false is rest = rw (is, is) rest

-- A removed name is not found.
own_unregister : (cs : List Connection) (name : List ℕ) → connection_named (others name cs) name ≡ None
own_unregister [] name = refl
own_unregister (c ∷ cs) name = by (bytes_eq c.name name) refl (own_unregister cs name)
  where
    by : (b : Bool) → bytes_eq c.name name ≡ b → connection_named (others name cs) name ≡ None → connection_named (others name (c ∷ cs)) name ≡ None
    by true is rest = rw is rest
    by false is rest = rw (is, is) rest

-- A move does what it says.
pub own_moves : OwnMoves
own_moves cs (Register name expiry) may = rw (find-append (λ c. bytes_eq c.name name) cs (record { name = name; expiry = expiry } ∷ []), may, same_name name) refl
own_moves cs (Renew name expiry) may = own_renew cs name expiry
own_moves cs (Unregister name) may = own_unregister cs name

-- A name that is not there is not there after another was registered.
absent_register : (cs : List Connection) (c : Connection) (n : List ℕ) → connection_named cs n ≡ None → bytes_eq c.name n ≡ false
    → connection_named (cs ++ c ∷ []) n ≡ None
absent_register cs c n none other = rw (find-append (λ d. bytes_eq d.name n) cs (c ∷ []), none, other) refl

-- A name that is not there is not there after a renewal.
absent_renew : (cs : List Connection) (name : List ℕ) (expiry : ℕ) (n : List ℕ) → connection_named cs n ≡ None
    → connection_named (map (renewed_connection name expiry) cs) n ≡ None
absent_renew [] name expiry n none = refl
absent_renew (c ∷ cs) name expiry n none =
    let parts = none_parts (bytes_eq c.name n) c (connection_named cs n) none in
    by (bytes_eq c.name name) parts.0 (absent_renew cs name expiry n parts.1)
  where
    by : (b : Bool) → bytes_eq c.name n ≡ false → connection_named (map (renewed_connection name expiry) cs) n ≡ None
        → connection_named ((if b then record c { expiry = expiry } else c) ∷ map (renewed_connection name expiry) cs) n ≡ None
    by true other rest = rw other rest
    by false other rest = rw other rest

-- A name that is not there is not there after a removal.
absent_unregister : (cs : List Connection) (name n : List ℕ) → connection_named cs n ≡ None → connection_named (others name cs) n ≡ None
absent_unregister [] name n none = refl
absent_unregister (c ∷ cs) name n none =
    let parts = none_parts (bytes_eq c.name n) c (connection_named cs n) none in
    by (bytes_eq c.name name) parts.0 (absent_unregister cs name n parts.1)
  where
    by : (b : Bool) → bytes_eq c.name n ≡ false → connection_named (others name cs) n ≡ None
        → connection_named (cond (not b) (c ∷ others name cs) (others name cs)) n ≡ None
    by true other rest = rest
    by false other rest = rw other rest

-- Names stay apart where a new one is registered.
apart_register : (cs : List Connection) (name : List ℕ) (expiry : ℕ) → AreApart cs → connection_named cs name ≡ None
    → AreApart (cs ++ record { name = name; expiry = expiry } ∷ [])
apart_register [] name expiry apart may = (refl, tt)
apart_register (c ∷ cs) name expiry apart may =
    let parts = none_parts (bytes_eq c.name name) c (connection_named cs name) may in (
      absent_register cs (record { name = name; expiry = expiry }) c.name apart.0 (nat_list_eq_equiv.symm name c.name ∙ parts.0),
      apart_register cs name expiry apart.1 parts.1,
    )

-- Names stay apart in a renewal.
apart_renew : (cs : List Connection) (name : List ℕ) (expiry : ℕ) → AreApart cs → AreApart (map (renewed_connection name expiry) cs)
apart_renew [] name expiry apart = tt
apart_renew (c ∷ cs) name expiry apart = by (bytes_eq c.name name) (absent_renew cs name expiry c.name apart.0) (apart_renew cs name expiry apart.1)
  where
    by : (b : Bool) → connection_named (map (renewed_connection name expiry) cs) c.name ≡ None → AreApart (map (renewed_connection name expiry) cs)
        → AreApart ((if b then record c { expiry = expiry } else c) ∷ map (renewed_connection name expiry) cs)
    by true none rest = (none, rest)
    by false none rest = (none, rest)

-- Names stay apart in a removal.
apart_unregister : (cs : List Connection) (name : List ℕ) → AreApart cs → AreApart (others name cs)
apart_unregister [] name apart = tt
apart_unregister (c ∷ cs) name apart = by (bytes_eq c.name name) (absent_unregister cs name c.name apart.0) (apart_unregister cs name apart.1)
  where
    by : (b : Bool) → connection_named (others name cs) c.name ≡ None → AreApart (others name cs) → AreApart (cond (not b) (c ∷ others name cs) (others name cs))
    by true none rest = rest
    by false none rest = (none, rest)

-- Names stay apart.
pub stay_apart : StayApart
stay_apart cs (Register name expiry) apart may = apart_register cs name expiry apart may
stay_apart cs (Renew name expiry) apart may = apart_renew cs name expiry apart
stay_apart cs (Unregister name) apart may = apart_unregister cs name apart
