-- The flags of `live`: they are read wherever they stand before a `--`, and once.
use Rattle.sl_cli.specs.CommandWords.{Placing, is_plain, live_in, next_placed, nothing_placed, placed_from, placed_in, said_in, with_flag, with_folder}
use Rattle.sl_cli.specs.OwnWords.{Options, is_folder, is_machine, is_own, is_rooted, no_options, options_from, own_in, own_of, with_flag as own_flag, with_path, with_watchdog, with_word}
use Rattle.sl_cli.specs.declared.command_words.Words.TheVariants.{Own}
use Rattle.sl_text.specs.Numbers.{number_of}
use Rattle.sl_cli.specs.Spellings.{FlagsStandAnywhere, FlagsStandOnce, are_single, flags, is_among}
use Rattle.sl_words.proofs.CaseLaws.{none_some, some_value}
use Rattle.sl_words.proofs.WordLaws.{and_true}
use Rattle.sl_words.specs.Words.{choose}
use Rattle.std.proofs.Common.{Bool, List, None, Option, Some, [], ap, append_assoc, append-nil, false, inl, inr, not, refl, subst, sym, true, ℕ, ◌&&◌, ◌++◌, ◌||◌, ◌≡◌, ◌∙◌, ◌∷◌, ◌⊎◌}
use Rattle.std.proofs.lemmas.Bool.{cases_Bool, or_parts}
use Rattle.std.proofs.lemmas.List.Folds.{list_all-append, list_any-append}
use Rattle.std.proofs.lemmas.Slice.Eq.{bytes_eq-Decides}
use Rattle.std.specs.List.{list_all}
use Rattle.std.specs.Prelude.{bytes_eq, codes, if◌then◌else◌, is_some, option_and_then, option_map}

-- ---- the flags

pub data Flag : Type 0 where
  anew : Flag
  keeps : Flag
  events : Flag

abbrev pub name_of : Flag → List ℕ
name_of anew = codes "anew"
name_of keeps = codes "keep-going"
name_of events = codes "events"

abbrev pub word_of : Flag → List ℕ
word_of f = 45 ∷ 45 ∷ name_of f

-- Whether it was met.
abbrev on : Flag → Placing → Bool
on anew p = p.anew
on keeps p = p.keeps
on events p = p.events

abbrev with_one : Flag → Placing → Placing
with_one anew p = record p { anew = true }
with_one keeps p = record p { keeps = true }
with_one events p = record p { events = true }

is_some_flag : (w : List ℕ) (a k e : Bool) → bytes_eq (codes "--anew") w ≡ a → bytes_eq (codes "--keep-going") w ≡ k → bytes_eq (codes "--events") w ≡ e → (a || (k || (e || false))) ≡ true
    → (g : Flag) × (word_of g ≡ w)
is_some_flag w true k e is_anew is_keeps is_events some = (anew, (bytes_eq-Decides (codes "--anew") w).0 is_anew)
is_some_flag w false true e is_anew is_keeps is_events some = (keeps, (bytes_eq-Decides (codes "--keep-going") w).0 is_keeps)
is_some_flag w false false true is_anew is_keeps is_events some = (events, (bytes_eq-Decides (codes "--events") w).0 is_events)
is_some_flag w false false false is_anew is_keeps is_events some = absurd cc

flag_of : (w : List ℕ) → is_among w flags ≡ true → (g : Flag) × (word_of g ≡ w)
flag_of w some = is_some_flag w (bytes_eq (codes "--anew") w) (bytes_eq (codes "--keep-going") w) (bytes_eq (codes "--events") w) refl refl refl some

-- ---- all of them, in any order

-- A folder and these flags.
abbrev placed : Option (List ℕ) → Bool → Bool → Bool → Placing
placed folder a k e = record { folder = folder; anew = a; keeps = k; events = e }

abbrev placing_for : Option (List ℕ) → List (List ℕ) → Placing
placing_for folder ws = placed folder (is_among (codes "--anew") ws) (is_among (codes "--keep-going") ws) (is_among (codes "--events") ws)

or_not : (b : Bool) → (b || false) ≡ b
or_not true = refl
or_not false = refl

or_yes : (b : Bool) → (b || true) ≡ true
or_yes true = refl
or_yes false = refl

among_more : (f w : List ℕ) (ws : List (List ℕ)) → is_among f (ws ++ w ∷ []) ≡ (is_among f ws || bytes_eq w f)
among_more f w ws = list_any-append (λ v. bytes_eq v f) ws (w ∷ []) ∙ ap (λ b. is_among f ws || b) (or_not (bytes_eq w f))

among_own : (f w : List ℕ) (ws : List (List ℕ)) → bytes_eq w f ≡ true → is_among f (ws ++ w ∷ []) ≡ true
among_own f w ws is = among_more f w ws ∙ ap (λ b. is_among f ws || b) is ∙ or_yes (is_among f ws)

among_other : (f w : List ℕ) (ws : List (List ℕ)) → bytes_eq w f ≡ false → is_among f (ws ++ w ∷ []) ≡ is_among f ws
among_other f w ws is = among_more f w ws ∙ ap (λ b. is_among f ws || b) is ∙ or_not (is_among f ws)

all_same : (folder : Option (List ℕ)) (a b k l e f : Bool) → a ≡ b → k ≡ l → e ≡ f → placed folder a k e ≡ placed folder b l f
all_same folder a b k l e f same_a same_k same_e = ap (λ x. placed folder x k e) same_a ∙ ap (λ x. placed folder b x e) same_k ∙ ap (λ x. placed folder b l x) same_e

placed_more : (g : Flag) (folder : Option (List ℕ)) (ws : List (List ℕ)) → with_one g (placing_for folder ws) ≡ placing_for folder (ws ++ word_of g ∷ [])
placed_more anew folder ws =
    all_same folder _ _ _ _ _ _ (sym (among_own (codes "--anew") (codes "--anew") ws refl)) (sym (among_other (codes "--keep-going") (codes "--anew") ws refl))
    (sym (among_other (codes "--events") (codes "--anew") ws refl))
placed_more keeps folder ws =
    all_same folder _ _ _ _ _ _ (sym (among_other (codes "--anew") (codes "--keep-going") ws refl)) (sym (among_own (codes "--keep-going") (codes "--keep-going") ws refl))
    (sym (among_other (codes "--events") (codes "--keep-going") ws refl))
placed_more events folder ws =
    all_same folder _ _ _ _ _ _ (sym (among_other (codes "--anew") (codes "--events") ws refl)) (sym (among_other (codes "--keep-going") (codes "--events") ws refl))
    (sym (among_own (codes "--events") (codes "--events") ws refl))

on_placing : (g : Flag) (folder : Option (List ℕ)) (ws : List (List ℕ)) → on g (placing_for folder ws) ≡ is_among (word_of g) ws
on_placing anew folder ws = refl
on_placing keeps folder ws = refl
on_placing events folder ws = refl

-- What is read of the words behind a flag, if it was not met before.
abbrev behind_flag : Flag → Placing → List (List ℕ) → Bool → Option Placing
behind_flag g p rest met = option_and_then (λ next. placed_from false next rest) (choose (not met) (with_one g p))

flag_read : (g : Flag) (p : Placing) (rest : List (List ℕ)) → placed_from false p (word_of g ∷ rest) ≡ behind_flag g p rest (on g p)
flag_read anew p rest = refl
flag_read keeps p rest = refl
flag_read events p rest = refl

one_read : (g : Flag) (before rest : List (List ℕ)) (folder : Option (List ℕ)) → not (is_among (word_of g) before) ≡ true
    → placed_from false (placing_for folder before) (word_of g ∷ rest) ≡ placed_from false (placing_for folder (before ++ word_of g ∷ [])) rest
one_read g before rest folder new =
    flag_read g (placing_for folder before) rest
    ∙ ap (λ met. option_and_then (λ next. placed_from false next rest) (choose (not met) (with_one g (placing_for folder before)))) (on_placing g folder before)
    ∙ ap (λ b. option_and_then (λ next. placed_from false next rest) (choose b (with_one g (placing_for folder before)))) new
    ∙ ap (λ p. placed_from false p rest) (placed_more g folder before)

flags_read : (ws before rest : List (List ℕ)) (folder : Option (List ℕ)) → list_all (λ w. is_among w flags) ws ≡ true → are_single before ws ≡ true
    → placed_from false (placing_for folder before) (ws ++ rest) ≡ placed_from false (placing_for folder (before ++ ws)) rest
flags_read [] before rest folder all single = ap (λ vs. placed_from false (placing_for folder vs) rest) (sym (append-nil before))
flags_read (w ∷ ws) before rest folder all single =
    let these = and_true (is_among w flags) (list_all (λ v. is_among v flags) ws) all in
    let apart = and_true (not (is_among w before)) (are_single (before ++ w ∷ []) ws) single in
    let g = flag_of w these.0 in
    subst (λ v. not (is_among v before) ≡ true → placed_from false (placing_for folder before) (v ∷ ws ++ rest) ≡ placed_from false (placing_for folder (before ++ v ∷ [])) (ws ++ rest)) g.1
    (one_read g.0 before (ws ++ rest) folder) apart.0
    ∙ flags_read ws (before ++ w ∷ []) rest folder these.1 apart.1
    ∙ ap (λ vs. placed_from false (placing_for folder vs) rest) (append_assoc before (w ∷ []) ws)

clash : true ≡ false → ⊥
clash is = absurd cc

folder_read : (folder : List ℕ) (before rest : List (List ℕ)) → is_plain folder ≡ true
    → placed_from false (placing_for None before) (folder ∷ rest) ≡ placed_from false (placing_for (Some folder) before) rest
folder_read folder before rest plain = rw (no_dashes (cases_Bool (bytes_eq folder (codes "--"))), plain) refl
  where
    no_dashes : (bytes_eq folder (codes "--") ≡ true) ⊎ (bytes_eq folder (codes "--") ≡ false) → bytes_eq folder (codes "--") ≡ false
    no_dashes (inl is) = absurd (clash (sym plain ∙ ap is_plain ((bytes_eq-Decides folder (codes "--")).0 is)))
    no_dashes (inr apart) = apart

and_assoc : (a b c : Bool) → (a && (b && c)) ≡ ((a && b) && c)
and_assoc true b c = refl
and_assoc false b c = refl

single_parts : (before ws vs : List (List ℕ)) → are_single before (ws ++ vs) ≡ (are_single before ws && are_single (before ++ ws) vs)
single_parts before [] vs = ap (λ us. are_single us vs) (sym (append-nil before))
single_parts before (w ∷ ws) vs =
    ap (λ b. not (is_among w before) && b) (single_parts (before ++ w ∷ []) ws vs)
    ∙ and_assoc (not (is_among w before)) (are_single (before ++ w ∷ []) ws) (are_single ((before ++ w ∷ []) ++ ws) vs)
    ∙ ap (λ us. (not (is_among w before) && are_single (before ++ w ∷ []) ws) && are_single us vs) (append_assoc before (w ∷ []) ws)

said_live : (ws : List (List ℕ)) → is_own (codes "live" ∷ ws) ≡ false → said_in (codes "live" ∷ ws) ≡ live_in ws
said_live [] other = refl
said_live (w ∷ []) other = refl
said_live (w ∷ v ∷ ws) other = rw other refl

-- No word names a machine.
no_machine : (ws : List (List ℕ)) → is_among (codes "--machine") ws ≡ false → is_own (codes "live" ∷ ws) ≡ false
no_machine [] none = refl
no_machine (w ∷ []) none = refl
no_machine (w ∷ v ∷ ws) none =
    (or_parts (bytes_eq v (codes "--machine")) (is_among (codes "--machine") ws) (or_parts (bytes_eq w (codes "--machine")) (is_among (codes "--machine") (v ∷ ws)) none).1).0

flag_no_machine : (g : Flag) → bytes_eq (word_of g) (codes "--machine") ≡ false
flag_no_machine anew = refl
flag_no_machine keeps = refl
flag_no_machine events = refl

both_false : (a b : Bool) → a ≡ false → b ≡ false → (a || b) ≡ false
both_false true b is other = absurd cc
both_false false b is other = other

flags_no_machine : (ws : List (List ℕ)) → list_all (λ w. is_among w flags) ws ≡ true → is_among (codes "--machine") ws ≡ false
flags_no_machine [] all = refl
flags_no_machine (w ∷ ws) all =
    let both = and_true (is_among w flags) (list_all (λ w. is_among w flags) ws) all in
    let g = flag_of w both.0 in
    both_false (bytes_eq w (codes "--machine")) (is_among (codes "--machine") ws) (subst (λ u. bytes_eq u (codes "--machine") ≡ false) g.1 (flag_no_machine g.0)) (flags_no_machine ws both.1)

folder_no_machine : (folder : List ℕ) → is_plain folder ≡ true → bytes_eq folder (codes "--machine") ≡ false
folder_no_machine folder plain = by (cases_Bool (bytes_eq folder (codes "--machine")))
  where
    by : (bytes_eq folder (codes "--machine") ≡ true) ⊎ (bytes_eq folder (codes "--machine") ≡ false) → bytes_eq folder (codes "--machine") ≡ false
    by (inl is) = absurd (clash (sym plain ∙ ap is_plain ((bytes_eq-Decides folder (codes "--machine")).0 is)))
    by (inr apart) = apart

among_append : (w : List ℕ) (xs ys : List (List ℕ)) → is_among w xs ≡ false → is_among w ys ≡ false → is_among w (xs ++ ys) ≡ false
among_append w xs ys first last = list_any-append (λ v. bytes_eq v w) xs ys ∙ both_false (is_among w xs) (is_among w ys) first last

anywhere_no_machine : (folder : List ℕ) (before behind : List (List ℕ)) → is_plain folder ≡ true → list_all (λ w. is_among w flags) before ≡ true
    → list_all (λ w. is_among w flags) behind ≡ true → is_own (codes "live" ∷ before ++ folder ∷ behind) ≡ false
anywhere_no_machine folder before behind plain first last =
    no_machine (before ++ folder ∷ behind)
    (among_append (codes "--machine") before (folder ∷ behind) (flags_no_machine before first)
    (both_false (bytes_eq folder (codes "--machine")) (is_among (codes "--machine") behind) (folder_no_machine folder plain) (flags_no_machine behind last)))

pub flags_stand_anywhere : FlagsStandAnywhere
flags_stand_anywhere folder before behind plain all_flags =
    let all = and_true (list_all (λ w. is_among w flags) before) _ (sym (list_all-append (λ w. is_among w flags) before behind) ∙ all_flags.0) in
    let single = and_true (are_single [] before) _ (sym (single_parts [] before behind) ∙ all_flags.1) in
    said_live (before ++ folder ∷ behind) (anywhere_no_machine folder before behind plain all.0 all.1)
    ∙ ap (option_and_then placed_in) (flags_read before [] (folder ∷ behind) None all.0 single.0 ∙ folder_read folder before behind plain
    ∙ ap (placed_from false (placing_for (Some folder) before)) (sym (append-nil behind)) ∙ flags_read behind before [] (Some folder) all.1 single.1)

-- ---- none of them twice

-- What is met stays met.
on_with : (f g : Flag) (p : Placing) → on f p ≡ true → on f (with_one g p) ≡ true
on_with anew anew p is = refl
on_with anew keeps p is = is
on_with anew events p is = is
on_with keeps anew p is = is
on_with keeps keeps p is = refl
on_with keeps events p is = is
on_with events anew p is = is
on_with events keeps p is = is
on_with events events p is = refl

on_self : (g : Flag) (p : Placing) → on g (with_one g p) ≡ true
on_self anew p = refl
on_self keeps p = refl
on_self events p = refl

on_folder : (g : Flag) (p : Placing) (w : List ℕ) → on g p ≡ true → on g (record p { folder = Some w }) ≡ true
on_folder anew p w is = is
on_folder keeps p w is = is
on_folder events p w is = is

on_chosen : (g : Flag) (b : Bool) (p q : Placing) → choose b p ≡ Some q → on g p ≡ true → on g q ≡ true
on_chosen g true p q is met = subst (λ r. on g r ≡ true) (some_value p q is) met
on_chosen g false p q is met = absurd (none_some q is)

flag_stays : (g : Flag) (a k e : Bool) (p q : Placing)
    → (if a then choose (not p.anew) (record p { anew = true }) else if k then choose (not p.keeps) (record p { keeps = true }) else if e then choose (not p.events) (record p { events = true }) else None) ≡ Some q
    → on g p ≡ true → on g q ≡ true
flag_stays g true k e p q is met = on_chosen g (not p.anew) (with_one anew p) q is (on_with g anew p met)
flag_stays g false true e p q is met = on_chosen g (not p.keeps) (with_one keeps p) q is (on_with g keeps p met)
flag_stays g false false true p q is met = on_chosen g (not p.events) (with_one events p) q is (on_with g events p met)
flag_stays g false false false p q is met = absurd (none_some q is)

word_stays : (g : Flag) (plain : Bool) (p q : Placing) (w : List ℕ) → (if plain then with_folder p w else with_flag p w) ≡ Some q → on g p ≡ true → on g q ≡ true
word_stays g true p q w is met = on_chosen g _ (record p { folder = Some w }) q is (on_folder g p w met)
word_stays g false p q w is met = flag_stays g (bytes_eq w (codes "--anew")) (bytes_eq w (codes "--keep-going")) (bytes_eq w (codes "--events")) p q is met

-- A word that is not `--`.
word_read : (p : Placing) (w : List ℕ) (ws : List (List ℕ)) → bytes_eq w (codes "--") ≡ false
    → placed_from false p (w ∷ ws) ≡ option_and_then (λ next. placed_from false next ws) (next_placed p w)
word_read p w ws apart = ap (λ b. if b then placed_from true p ws else option_and_then (λ next. placed_from false next ws) (next_placed p w)) apart

-- A flag that was met is not read again.
again : (g : Flag) (ws behind : List (List ℕ)) (p : Placing) → on g p ≡ true → is_among (codes "--") ws ≡ false → placed_from false p (ws ++ word_of g ∷ behind) ≡ None
again g [] behind p met free = flag_read g p behind ∙ ap (behind_flag g p behind) met
again g (w ∷ ws) behind p met free =
    let apart = or_parts (bytes_eq w (codes "--")) (is_among (codes "--") ws) free in
    word_read p w (ws ++ word_of g ∷ behind) apart.0 ∙ by (next_placed p w) refl (λ q stays. again g ws behind q stays apart.1)
  where
    by : (o : Option Placing) → next_placed p w ≡ o → ((q : Placing) → on g q ≡ true → placed_from false q (ws ++ word_of g ∷ behind) ≡ None)
        → option_and_then (λ next. placed_from false next (ws ++ word_of g ∷ behind)) o ≡ None
    by None is later = refl
    by (Some q) is later = later q (word_stays g (is_plain w) p q w is met)

twice : (g : Flag) (before between behind : List (List ℕ)) (p : Placing) → is_among (codes "--") before ≡ false → is_among (codes "--") between ≡ false
    → placed_from false p (before ++ word_of g ∷ between ++ word_of g ∷ behind) ≡ None
twice g [] between behind p free open_between = flag_read g p (between ++ word_of g ∷ behind) ∙ by (on g p)
  where
    by : (met : Bool) → behind_flag g p (between ++ word_of g ∷ behind) met ≡ None
    by true = refl
    by false = again g between behind (with_one g p) (on_self g p) open_between
twice g (w ∷ ws) between behind p free open_between =
    let apart = or_parts (bytes_eq w (codes "--")) (is_among (codes "--") ws) free in
    word_read p w (ws ++ word_of g ∷ between ++ word_of g ∷ behind) apart.0 ∙ by (next_placed p w) (λ q. twice g ws between behind q apart.1 open_between)
  where
    by : (o : Option Placing) → ((q : Placing) → placed_from false q (ws ++ word_of g ∷ between ++ word_of g ∷ behind) ≡ None)
        → option_and_then (λ next. placed_from false next (ws ++ word_of g ∷ between ++ word_of g ∷ behind)) o ≡ None
    by None later = refl
    by (Some q) later = later q

-- ---- nor behind `--machine`

-- It was met.
abbrev on_own : Flag → Options → Bool
on_own anew o = true
on_own keeps o = o.keeps
on_own events o = o.events

own_chosen : (g : Flag) (b : Bool) (o q : Options) → choose b o ≡ Some q → on_own g o ≡ true → on_own g q ≡ true
own_chosen g true o q is met = subst (λ r. on_own g r ≡ true) (some_value o q is) met
own_chosen g false o q is met = absurd (none_some q is)

on_path : (g : Flag) (o : Options) (w : List ℕ) → on_own g o ≡ true → on_own g (record o { watchdog = Some w; waits = false }) ≡ true
on_path anew o w met = refl
on_path keeps o w met = met
on_path events o w met = met

on_watchdog : (g : Flag) (o : Options) → on_own g o ≡ true → on_own g (record o { waits = true }) ≡ true
on_watchdog anew o met = refl
on_watchdog keeps o met = met
on_watchdog events o met = met

on_syncs : (g : Flag) (o : Options) → on_own g o ≡ true → on_own g (record o { syncs = false }) ≡ true
on_syncs anew o met = refl
on_syncs keeps o met = met
on_syncs events o met = met

on_keeps : (g : Flag) (o : Options) → on_own g o ≡ true → on_own g (record o { keeps = true }) ≡ true
on_keeps anew o met = refl
on_keeps keeps o met = refl
on_keeps events o met = met

on_events : (g : Flag) (o : Options) → on_own g o ≡ true → on_own g (record o { events = true }) ≡ true
on_events anew o met = refl
on_events keeps o met = met
on_events events o met = refl

own_flag_stays : (g : Flag) (s k e : Bool) (o q : Options)
    → (if s then choose o.syncs (record o { syncs = false }) else if k then choose (not o.keeps) (record o { keeps = true }) else if e then choose (not o.events) (record o { events = true }) else None) ≡ Some q
    → on_own g o ≡ true → on_own g q ≡ true
own_flag_stays g true k e o q is met = own_chosen g o.syncs (record o { syncs = false }) q is (on_syncs g o met)
own_flag_stays g false true e o q is met = own_chosen g (not o.keeps) (record o { keeps = true }) q is (on_keeps g o met)
own_flag_stays g false false true o q is met = own_chosen g (not o.events) (record o { events = true }) q is (on_events g o met)
own_flag_stays g false false false o q is met = absurd (none_some q is)

own_word_stays : (g : Flag) (waits names : Bool) (o q : Options) (w : List ℕ) → (if waits then with_path o w else if names then with_watchdog o else own_flag o w) ≡ Some q
    → on_own g o ≡ true → on_own g q ≡ true
own_word_stays g true names o q w is met = own_chosen g (is_rooted w) (record o { watchdog = Some w; waits = false }) q is (on_path g o w met)
own_word_stays g false true o q w is met = own_chosen g (not (is_some o.watchdog)) (record o { waits = true }) q is (on_watchdog g o met)
own_word_stays g false false o q w is met = own_flag_stays g (bytes_eq w (codes "--no-sync")) (bytes_eq w (codes "--keep-going")) (bytes_eq w (codes "--events")) o q is met

-- A flag that was met is none any more.
own_met : (g : Flag) (waits : Bool) (o : Options) → on_own g o ≡ true → (if waits then with_path o (word_of g) else if bytes_eq (word_of g) (codes "--watchdog") then with_watchdog o else own_flag o (word_of g)) ≡ None
own_met anew true o met = refl
own_met keeps true o met = refl
own_met events true o met = refl
own_met anew false o met = refl
own_met keeps false o met = ap (λ b. choose (not b) (record o { keeps = true })) met
own_met events false o met = ap (λ b. choose (not b) (record o { events = true })) met

-- One that was not is met then, or is none.
own_first : (g : Flag) (waits : Bool) (o q : Options) → (if waits then with_path o (word_of g) else if bytes_eq (word_of g) (codes "--watchdog") then with_watchdog o else own_flag o (word_of g)) ≡ Some q
    → on_own g q ≡ true
own_first anew true o q is = absurd (none_some q is)
own_first keeps true o q is = absurd (none_some q is)
own_first events true o q is = absurd (none_some q is)
own_first anew false o q is = absurd (none_some q is)
own_first keeps false o q is = own_chosen keeps (not o.keeps) (record o { keeps = true }) q is refl
own_first events false o q is = own_chosen events (not o.events) (record o { events = true }) q is refl

own_again : (g : Flag) (ws behind : List (List ℕ)) (o : Options) → on_own g o ≡ true → options_from o (ws ++ word_of g ∷ behind) ≡ None
own_again g [] behind o met = ap (option_and_then (λ next. options_from next behind)) (own_met g o.waits o met)
own_again g (w ∷ ws) behind o met = by (with_word o w) refl (λ q kept. own_again g ws behind q kept)
  where
    by : (x : Option Options) → with_word o w ≡ x → ((q : Options) → on_own g q ≡ true → options_from q (ws ++ word_of g ∷ behind) ≡ None)
        → option_and_then (λ next. options_from next (ws ++ word_of g ∷ behind)) x ≡ None
    by None is later = refl
    by (Some q) is later = later q (own_word_stays g o.waits (bytes_eq w (codes "--watchdog")) o q w is met)

own_twice : (g : Flag) (before between behind : List (List ℕ)) (o : Options) → options_from o (before ++ word_of g ∷ between ++ word_of g ∷ behind) ≡ None
own_twice g [] between behind o = by (with_word o (word_of g)) refl
  where
    by : (x : Option Options) → with_word o (word_of g) ≡ x → option_and_then (λ next. options_from next (between ++ word_of g ∷ behind)) x ≡ None
    by None is = refl
    by (Some q) is = own_again g between behind q (own_first g o.waits o q is)
own_twice g (w ∷ ws) between behind o = by (with_word o w) (λ q. own_twice g ws between behind q)
  where
    by : (x : Option Options) → ((q : Options) → options_from q (ws ++ word_of g ∷ between ++ word_of g ∷ behind) ≡ None)
        → option_and_then (λ next. options_from next (ws ++ word_of g ∷ between ++ word_of g ∷ behind)) x ≡ None
    by None later = refl
    by (Some q) later = later q

-- A flag is no folder, names no machine and is no number.
flag_first : (g : Flag) (rest : List (List ℕ)) → own_in (codes "live" ∷ word_of g ∷ rest) ≡ None
flag_first g [] = refl
flag_first g (d ∷ []) = refl
flag_first anew (d ∷ m ∷ ws) = refl
flag_first keeps (d ∷ m ∷ ws) = refl
flag_first events (d ∷ m ∷ ws) = refl

flag_number : (g : Flag) (folder : List ℕ) (ws : List (List ℕ)) → own_of folder (word_of g) ws ≡ None
flag_number g folder ws = by (is_folder folder) g
  where
    by : (b : Bool) (g : Flag) → option_map (λ o. Own folder (number_of (word_of g)) o.watchdog o.syncs o.keeps o.events) (if b && is_machine (word_of g) then options_from no_options ws else None) ≡ None
    by true anew = refl
    by true keeps = refl
    by true events = refl
    by false g = refl

flag_options : (g : Flag) (folder m : List ℕ) (before between behind : List (List ℕ)) → own_of folder m (before ++ word_of g ∷ between ++ word_of g ∷ behind) ≡ None
flag_options g folder m before between behind = by (is_folder folder && is_machine m)
  where
    by : (b : Bool) → option_map (λ o. Own folder (number_of m) o.watchdog o.syncs o.keeps o.events) (if b then options_from no_options (before ++ word_of g ∷ between ++ word_of g ∷ behind) else None) ≡ None
    by true = ap (option_map (λ o. Own folder (number_of m) o.watchdog o.syncs o.keeps o.events)) (own_twice g before between behind no_options)
    by false = refl

own_none : (g : Flag) (before between behind : List (List ℕ)) → is_own (codes "live" ∷ before ++ word_of g ∷ between ++ word_of g ∷ behind) ≡ true
    → own_in (codes "live" ∷ before ++ word_of g ∷ between ++ word_of g ∷ behind) ≡ None
own_none g [] between behind is = flag_first g (between ++ word_of g ∷ behind)
own_none g (f ∷ []) between behind is = absurd (clash (sym is ∙ flag_no_machine g))
own_none g (f ∷ d ∷ []) between behind is = flag_number g f (between ++ word_of g ∷ behind)
own_none g (f ∷ d ∷ m ∷ before) between behind is = flag_options g f m before between behind

said_own : (ws : List (List ℕ)) → is_own (codes "live" ∷ ws) ≡ true → said_in (codes "live" ∷ ws) ≡ own_in (codes "live" ∷ ws)
said_own [] is = absurd (clash (sym is))
said_own (w ∷ []) is = absurd (clash (sym is))
said_own (w ∷ v ∷ ws) is = rw is refl

pub flags_stand_once : FlagsStandOnce
flags_stand_once flag before between behind is_flag free open_between =
    let g = flag_of flag is_flag in
    subst (λ w. said_in (codes "live" ∷ before ++ w ∷ between ++ w ∷ behind) ≡ None) g.1 (by g.0 (cases_Bool (is_own (codes "live" ∷ before ++ word_of g.0 ∷ between ++ word_of g.0 ∷ behind))))
  where
    by : (g : Flag) → (is_own (codes "live" ∷ before ++ word_of g ∷ between ++ word_of g ∷ behind) ≡ true) ⊎ (is_own (codes "live" ∷ before ++ word_of g ∷ between ++ word_of g ∷ behind) ≡ false)
        → said_in (codes "live" ∷ before ++ word_of g ∷ between ++ word_of g ∷ behind) ≡ None
    by g (inl own) = said_own (before ++ word_of g ∷ between ++ word_of g ∷ behind) own ∙ own_none g before between behind own
    by g (inr other) =
        said_live (before ++ word_of g ∷ between ++ word_of g ∷ behind) other
        ∙ ap (option_and_then placed_in) (twice g before between behind nothing_placed free open_between)
