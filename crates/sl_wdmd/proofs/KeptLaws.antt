-- What is done to a map of names is what is done to the list of connections.
use Rattle.sl_trace.specs.WatchdogConnections.{Connection, renewed_connection}
use Rattle.sl_wdmd.specs.KeptConnections.{all_connections, connection_of, connections_of}
use Rattle.sl_wdmd.specs.Moves.{others}
use Rattle.indexmap.proofs.CallerLemmas.{insert_entry-new}
use Rattle.indexmap.specs.IndexMap.{IndexMap, get, insert_entry}
use Rattle.sl_words.proofs.CaseLaws.{none_some}
use Rattle.std.proofs.Common.{Bool, List, None, Some, ap, append_assoc, bytes_eq, cond, false, map, not, refl, sym, true, [], ℕ, ◌++◌, ◌∙◌, nat_le, ◌||◌, ◌∷◌, ◌≡◌}
use Rattle.std.proofs.lemmas.Map.{NonePasses}
use Rattle.std.proofs.lemmas.List.Elements.{filter-append}
use Rattle.std.proofs.lemmas.List.Folds.{list_any-append}
use Rattle.std.proofs.lemmas.List.{append-nil, map-append}
use Rattle.std.proofs.lemmas.Map.Entries.{none_past_head}
use Rattle.std.proofs.lemmas.Map.Keys.{IsDistinct-tail}
use Rattle.std.specs.Cmp.Lexicographic.{nat_list_eq_equiv}
use Rattle.std.specs.List.{IsDistinct, list_any}
use Rattle.std.specs.Map.{keys_of, lookup, remove_entry, set_value, values_of}

-- One more entry is one more connection.
connections_of_push : (es : List (List ℕ × ℕ)) (e : List ℕ × ℕ) → connections_of (es ++ e ∷ []) ≡ connections_of es ++ connection_of e ∷ []
connections_of_push [] e = refl
connections_of_push (d ∷ es) e = ap (λ cs. connection_of d ∷ cs) (connections_of_push es e)

-- A name that is not there is registered behind all others, in the map where none stands behind it,
pub registered_kept : {S : Type 0} (m : IndexMap (List ℕ) ℕ S) (behind : List Connection) (name : List ℕ) (expiry : ℕ) → behind ≡ [] → get bytes_eq m name ≡ None
    → all_connections (insert_entry bytes_eq m.entries name expiry) behind ≡ all_connections m.entries behind ++ record { name = name; expiry = expiry } ∷ []
registered_kept m behind name expiry nothing none =
    let one : List Connection = record { name = name; expiry = expiry } ∷ [] in
    ap (λ xs. connections_of (insert_entry bytes_eq m.entries name expiry) ++ xs) nothing
    ∙ append-nil (connections_of (insert_entry bytes_eq m.entries name expiry))
    ∙ ap connections_of (insert_entry-new bytes_eq m name expiry none) ∙ connections_of_push m.entries (name, expiry)
    ∙ ap (λ xs. xs ++ one) (sym (append-nil (connections_of m.entries)) ∙ ap (λ xs. connections_of m.entries ++ xs) (sym nothing))

-- .. or behind the map.
pub registered_behind : (es : List (List ℕ × ℕ)) (behind : List Connection) (c : Connection) → all_connections es (behind ++ c ∷ []) ≡ all_connections es behind ++ c ∷ []
registered_behind es behind c = sym (append_assoc (connections_of es) behind (c ∷ []))

-- Nothing is written where no entry has the key.
pub put_absent : (test : List ℕ → Bool) (es : List (List ℕ × ℕ)) (expiry : ℕ) → None ≡ lookup test es → es ≡ set_value test es expiry
put_absent test [] expiry none = refl
put_absent test (e ∷ es) expiry none = by (test e.0) none (put_absent test es expiry)
  where
    by : (b : Bool) → None ≡ cond b (Some e.1) (lookup test es) → (None ≡ lookup test es → es ≡ set_value test es expiry)
        → e ∷ es ≡ cond b ((e.0, expiry) ∷ es) (e ∷ set_value test es expiry)
    by true absent rest = absurd (none_some e.1 absent)
    by false absent rest = ap (λ xs. e ∷ xs) (rest absent)

-- A renewal of a name that is not there changes nothing.
renewed_absent : (es : List (List ℕ × ℕ)) (name : List ℕ) (expiry : ℕ) → NonePasses (bytes_eq name) es
    → connections_of es ≡ map (renewed_connection name expiry) (connections_of es)
renewed_absent [] name expiry none = refl
renewed_absent (e ∷ es) name expiry none =
    rw (nat_list_eq_equiv.symm e.0 name, none.0) (ap (λ cs. connection_of e ∷ cs) (renewed_absent es name expiry none.1))

-- Nothing is taken out where no connection has that name.
others_absent : (es : List (List ℕ × ℕ)) (name : List ℕ) → NonePasses (bytes_eq name) es → connections_of es ≡ others name (connections_of es)
others_absent [] name none = refl
others_absent (e ∷ es) name none =
    rw (nat_list_eq_equiv.symm e.0 name, none.0) (ap (λ cs. connection_of e ∷ cs) (others_absent es name none.1))

-- A value written at a key renews the one connection of that name.
renewed_in_map : (es : List (List ℕ × ℕ)) (name : List ℕ) (expiry : ℕ) → IsDistinct bytes_eq (keys_of es)
    → connections_of (set_value (bytes_eq name) es expiry) ≡ map (renewed_connection name expiry) (connections_of es)
renewed_in_map [] name expiry apart = refl
renewed_in_map (e ∷ es) name expiry apart =
    by (bytes_eq name e.0) refl (renewed_in_map es name expiry (IsDistinct-tail bytes_eq e.0 (keys_of es) apart))
  where
    by : (b : Bool) → bytes_eq name e.0 ≡ b
        → connections_of (set_value (bytes_eq name) es expiry) ≡ map (renewed_connection name expiry) (connections_of es)
        → connections_of (set_value (bytes_eq name) (e ∷ es) expiry) ≡ map (renewed_connection name expiry) (connections_of (e ∷ es))
    by true is rest = rw (nat_list_eq_equiv.symm e.0 name, is)
        (ap (λ cs. connection_of (e.0, expiry) ∷ cs) (renewed_absent es name expiry (none_past_head nat_list_eq_equiv name e es apart is)))
    by false is rest = rw (nat_list_eq_equiv.symm e.0 name, is) (ap (λ cs. connection_of e ∷ cs) rest)

-- A key taken out takes out the one connection of that name.
unregistered_in_map : (es : List (List ℕ × ℕ)) (name : List ℕ) → IsDistinct bytes_eq (keys_of es)
    → connections_of (remove_entry (bytes_eq name) es) ≡ others name (connections_of es)
unregistered_in_map [] name apart = refl
unregistered_in_map (e ∷ es) name apart =
    by (bytes_eq name e.0) refl (unregistered_in_map es name (IsDistinct-tail bytes_eq e.0 (keys_of es) apart))
  where
    by : (b : Bool) → bytes_eq name e.0 ≡ b
        → connections_of (remove_entry (bytes_eq name) es) ≡ others name (connections_of es)
        → connections_of (remove_entry (bytes_eq name) (e ∷ es)) ≡ others name (connections_of (e ∷ es))
    by true is rest = rw (nat_list_eq_equiv.symm e.0 name, is) (others_absent es name (none_past_head nat_list_eq_equiv name e es apart is))
    by false is rest = rw (nat_list_eq_equiv.symm e.0 name, is) (ap (λ cs. connection_of e ∷ cs) rest)

-- The values of the map tell whether a connection has expired.
expired_in_map : (es : List (List ℕ × ℕ)) (now : ℕ) → list_any (λ expiry. nat_le expiry now) (values_of es) ≡ list_any (λ c. nat_le c.expiry now) (connections_of es)
expired_in_map [] now = refl
expired_in_map (e ∷ es) now = ap (λ b. nat_le e.1 now || b) (expired_in_map es now)

-- .. and of those behind it.
pub renewed : (es : List (List ℕ × ℕ)) (behind : List Connection) (name : List ℕ) (expiry : ℕ) → IsDistinct bytes_eq (keys_of es)
    → all_connections (set_value (bytes_eq name) es expiry) (map (renewed_connection name expiry) behind) ≡ map (renewed_connection name expiry) (all_connections es behind)
renewed es behind name expiry apart =
    ap (λ xs. xs ++ map (renewed_connection name expiry) behind) (renewed_in_map es name expiry apart)
    ∙ sym (map-append (renewed_connection name expiry) (connections_of es) behind)

pub unregistered : (es : List (List ℕ × ℕ)) (behind : List Connection) (name : List ℕ) → IsDistinct bytes_eq (keys_of es)
    → all_connections (remove_entry (bytes_eq name) es) (others name behind) ≡ others name (all_connections es behind)
unregistered es behind name apart =
    ap (λ xs. xs ++ others name behind) (unregistered_in_map es name apart) ∙ sym (filter-append (λ c. not (bytes_eq c.name name)) (connections_of es) behind)

pub any_expired : (es : List (List ℕ × ℕ)) (behind : List Connection) (now : ℕ)
    → (list_any (λ expiry. nat_le expiry now) (values_of es) || list_any (λ c. nat_le c.expiry now) behind) ≡ list_any (λ c. nat_le c.expiry now) (all_connections es behind)
any_expired es behind now =
    ap (λ b. b || list_any (λ c. nat_le c.expiry now) behind) (expired_in_map es now) ∙ sym (list_any-append (λ c. nat_le c.expiry now) (connections_of es) behind)
