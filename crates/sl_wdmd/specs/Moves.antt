-- What a move does to the connections, said without how it is done.
use Rattle.sl_trace.specs.WatchdogConnections.{Connection, after_move, connection_named}
use Rattle.sl_trace.specs.declared.effects.Move.TheVariants.{Register, Renew, Unregister}
use Rattle.sl_trace.specs.declared.effects.Move.{Move}
use Rattle.std.specs.Prelude.{All, List, None, Option, Some, bytes_eq, filter, map, not, [], ℕ, ◌<◌, ◌++◌, ◌∷◌, ◌≡◌}
use Rattle.std.specs.Option.{option_map}

-- The name that a move is about.
abbrev pub name_of : Move → List ℕ
name_of (Register name expiry) = name
name_of (Renew name expiry) = name
name_of (Unregister name) = name

-- A registered name is not registered again.
abbrev pub MayMove : List Connection → Move → Type 0
MayMove cs (Register name expiry) = connection_named cs name ≡ None
MayMove cs (Renew name expiry) = Unit {0}
MayMove cs (Unregister name) = Unit {0}

-- No two connections have one name.
abbrev pub AreApart : List Connection → Type 0
AreApart [] = Unit {0}
AreApart (c ∷ cs) = (connection_named cs c.name ≡ None) × AreApart cs

-- No connection's expiry is at or below the reading.
abbrev pub NoneExpired : List Connection → ℕ → Type 0
NoneExpired cs now = All (λ c. now < c.expiry) cs

-- The names, in order of registration.
abbrev pub names : List Connection → List (List ℕ)
names cs = map (λ c. c.name) cs

-- The names that are not this one.
abbrev pub other_names : List ℕ → List (List ℕ) → List (List ℕ)
other_names name ns = filter (λ n. not (bytes_eq n name)) ns

-- The connections of other names.
abbrev pub others : List ℕ → List Connection → List Connection
others name cs = filter (λ c. not (bytes_eq c.name name)) cs

-- The names after a move: one more behind all others, the same ones, or all but one.
abbrev pub names_after : List (List ℕ) → Move → List (List ℕ)
names_after ns (Register name expiry) = ns ++ name ∷ []
names_after ns (Renew name expiry) = ns
names_after ns (Unregister name) = other_names name ns

-- A connection, with this expiry.
abbrev pub lasting_until : ℕ → Connection → Connection
lasting_until expiry c = record c { expiry = expiry }

-- The connection of a move's own name after it.
abbrev pub own_after : List Connection → Move → Option Connection
own_after cs (Register name expiry) = Some (record { name = name; expiry = expiry })
own_after cs (Renew name expiry) = option_map (lasting_until expiry) (connection_named cs name)
own_after cs (Unregister name) = None

-- A move leaves the connections of other names as they are: none is lost, none is new, their order and each expiry stays.
abbrev pub OthersStay : Type 0
OthersStay = (cs : List Connection) (m : Move) → others (name_of m) (after_move cs m) ≡ others (name_of m) cs

-- No name changes its place among the others.
abbrev pub NamesStay : Type 0
NamesStay = (cs : List Connection) (m : Move) → names (after_move cs m) ≡ names_after (names cs) m

-- A move does to the connection of its own name what it says.
abbrev pub OwnMoves : Type 0
OwnMoves = (cs : List Connection) (m : Move) → MayMove cs m → connection_named (after_move cs m) (name_of m) ≡ own_after cs m

-- Where no two connections have one name, no two have after a move.
abbrev pub StayApart : Type 0
StayApart = (cs : List Connection) (m : Move) → AreApart cs → MayMove cs m → AreApart (after_move cs m)
