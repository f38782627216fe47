-- Writes to a disk, one behind another: what stands afterwards, and what stays.
use Rattle.sl_area.specs.Sectors.{Apart, KeepsOthers, SectorPlace, put_at}
use Rattle.sl_direct.specs.Disks.{Holds, HoldsFront, IsBrokenOff, IsInitialised, IsOutside, Stands}
use Rattle.sl_direct.specs.FreshAreas.{Write, place_of}
use Rattle.sl_direct.specs.HalfDone.{AllFit, BrokeOff, Wrote, WroteFront, written}
use Rattle.std.proofs.Common.{All, Err, List, None, Ok, Option, Result, Some, [], ap, append_assoc, arith, drop, get_or, inl, inr, length, map, refl, subst, sym, take, take-append-drop, ℕ, ◌++◌, ◌+◌, ◌-◌, ◌<◌, ◌∙◌, ◌∷◌, ◌≡◌, ◌≤◌, ◌⊎◌}
use Rattle.std.proofs.lemmas.List.FromFn.{map-range_with_len_more, take-map-range_with_len}
use Rattle.std.specs.List.{range_with_len}
use Rattle.std.specs.Prelude.{OnErr, ⊤}
use Rattle.std.proofs.lemmas.List.Elements.{All-cons, All-head, All-nil, All-tail}
use Rattle.std.proofs.lemmas.List.{drop-drop, drop-take, drop_at, get_or-drop, get_or-take, length-append, length-drop, length-take, length-take-le, take-take, take_at}

-- ---- one write

pub length-put : (at : ℕ) (bytes content : List ℕ) → at + length bytes ≤ length content → length (put_at at bytes content) ≡ length content
length-put at bytes content fits = simp (length-append, length-take, length-drop) (omega arith)

-- What is in front of it stays, and what is behind it.
pub put_kept : (w : Write) (content : List ℕ) → w.offset + length w.sector ≤ length content
    → KeepsOthers (Some content) (Some (put_at w.offset w.sector content)) (place_of w)
put_kept w content fits =
    let at : ℕ = w.offset in
    let front : length (take at content) ≡ at = length-take-le at content (omega (arith, fits)) in
    let behind : length (take at content ++ w.sector) ≡ at + length w.sector = length-append (take at content) w.sector ∙ ap (λ (n : ℕ). n + length w.sector) front in (
      length-put at w.sector content fits,
      ap (take at) (append_assoc (take at content) w.sector (drop (at + length w.sector) content)) ∙ take_at (take at content) _ at front,
      drop_at (take at content ++ w.sector) (drop (at + length w.sector) content) (at + length w.sector) behind,
    )

-- It stands.
pub put_stands : (w : Write) (content : List ℕ) → w.offset + length w.sector ≤ length content
    → take (length w.sector) (drop w.offset (put_at w.offset w.sector content)) ≡ w.sector
put_stands w content fits =
    let at : ℕ = w.offset in
    let rest : List ℕ = drop (at + length w.sector) content in
    let front : length (take at content) ≡ at = length-take-le at content (omega (arith, fits)) in
    ap (take (length w.sector)) (ap (drop at) (append_assoc (take at content) w.sector rest) ∙ drop_at (take at content) (w.sector ++ rest) at front)
    ∙ take_at w.sector rest (length w.sector) refl

-- ---- what stays where one sector may have changed

front_same : (before after : List ℕ) (n at size : ℕ) → take n after ≡ take n before → at + size ≤ n
    → take size (drop at after) ≡ take size (drop at before)
front_same before after n at size same le =
    let cut : (xs : List ℕ) → take size (drop at xs) ≡ drop at (take (at + size) (take n xs)) =
    λ (xs : List ℕ). sym (ap (drop at) (take-take (at + size) n xs le) ∙ drop-take at size xs) in
    cut after ∙ ap (λ xs. drop at (take (at + size) xs)) same ∙ sym (cut before)

behind_same : (before after : List ℕ) (n at : ℕ) → drop n after ≡ drop n before → n ≤ at → drop at after ≡ drop at before
behind_same before after n at same le =
    let sum : n + (at - n) ≡ at = omega arith in
    let cut : (xs : List ℕ) → drop at xs ≡ drop (at - n) (drop n xs) = λ (xs : List ℕ). ap (λ (k : ℕ). drop k xs) (sym sum) ∙ sym (drop-drop (at - n) n xs) in
    cut after ∙ ap (drop (at - n)) same ∙ sym (cut before)

-- A sector apart from it.
pub apart_same : (before after : List ℕ) (q p : SectorPlace) → KeepsOthers (Some before) (Some after) p → Apart q p
    → take q.size (drop q.offset after) ≡ take q.size (drop q.offset before)
apart_same before after q p kept (inl le) = front_same before after p.offset q.offset q.size kept.1 le
apart_same before after q p kept (inr le) = ap (take q.size) (behind_same before after (p.offset + p.size) q.offset kept.2 le)

-- A byte outside it.
pub outside_same : (before after : List ℕ) (p : SectorPlace) (at : ℕ) → KeepsOthers (Some before) (Some after) p
    → ((at < p.offset) ⊎ (p.offset + p.size ≤ at)) → get_or after at 0 ≡ get_or before at 0
outside_same before after p at kept (inl lt) =
    sym (get_or-take p.offset after at 0 lt) ∙ ap (λ xs. get_or xs at 0) kept.1 ∙ get_or-take p.offset before at 0 lt
outside_same before after p at kept (inr le) =
    let n : ℕ = p.offset + p.size in
    let sum : n + (at - n) ≡ at = omega arith in
    let cut : (xs : List ℕ) → get_or xs at 0 ≡ get_or (drop n xs) (at - n) 0 = λ (xs : List ℕ). ap (λ (k : ℕ). get_or xs k 0) (sym sum) ∙ sym (get_or-drop n xs (at - n) 0) in
    cut after ∙ ap (λ xs. get_or xs (at - n) 0) kept.2 ∙ sym (cut before)

-- ---- writes behind one another

fit_on : (ws : List Write) (m n : ℕ) → m ≡ n → AllFit ws m → AllFit ws n
fit_on ws m n e h = subst (AllFit ws) e h

fit_behind : (w : Write) (ws : List Write) (content : List ℕ) → AllFit (w ∷ ws) (length content) → AllFit ws (length (put_at w.offset w.sector content))
fit_behind w ws content fit = fit_on ws (length content) (length (put_at w.offset w.sector content)) (sym (length-put w.offset w.sector content fit.0)) fit.1

pub length-written : (ws : List Write) (content : List ℕ) → AllFit ws (length content) → length (written ws content) ≡ length content
length-written [] content fit = refl
length-written (w ∷ ws) content fit = length-written ws (put_at w.offset w.sector content) (fit_behind w ws content fit) ∙ length-put w.offset w.sector content fit.0

written-append : (xs ys : List Write) (content : List ℕ) → written (xs ++ ys) content ≡ written ys (written xs content)
written-append [] ys content = refl
written-append (x ∷ xs) ys content = written-append xs ys (put_at x.offset x.sector content)

AllFit-append : (xs ys : List Write) (n : ℕ) → AllFit xs n → AllFit ys n → AllFit (xs ++ ys) n
AllFit-append [] ys n first second = second
AllFit-append (x ∷ xs) ys n first second = (first.0, AllFit-append xs ys n first.1 second)

pub Wrote-nil : (a : Option (List ℕ)) → Wrote [] a a
Wrote-nil None = tt
Wrote-nil (Some content) = (tt, refl)

pub Wrote-append : (xs ys : List Write) (a b c : Option (List ℕ)) → Wrote xs a b → Wrote ys b c → Wrote (xs ++ ys) a c
Wrote-append xs ys None b c first second = tt
Wrote-append xs ys (Some a) None c first second = absurd first
Wrote-append xs ys (Some a) (Some b) None first second = absurd second
Wrote-append xs ys (Some a) (Some b) (Some c) first second =
    let long : length b ≡ length a = ap length first.1 ∙ length-written xs a first.0 in (
      AllFit-append xs ys (length a) first.0 (fit_on ys (length b) (length a) long second.0),
      second.1 ∙ ap (written ys) first.1 ∙ sym (written-append xs ys a),
    )

-- ---- writes of which one failed

-- The only one.
pub broke_first : (w : Write) (size : ℕ) (a b : Option (List ℕ)) → size ≡ length w.sector → KeepsOthers a b (record { offset = w.offset; size = size }) → BrokeOff (w ∷ []) a b
broke_first w size None b e kept = tt
broke_first w size (Some a) None e kept = absurd kept
broke_first w size (Some a) (Some b) e kept =
    record { done = []; next = w; rest = []; split = refl; fit = tt; kept = subst (λ (n : ℕ). KeepsOthers (Some a) (Some b) (record { offset = w.offset; size = n })) e kept }

-- One of the first.
pub BrokeOff-front : (xs ys : List Write) (a b : Option (List ℕ)) → BrokeOff xs a b → BrokeOff (xs ++ ys) a b
BrokeOff-front xs ys None b broke = tt
BrokeOff-front xs ys (Some a) None broke = absurd broke
BrokeOff-front xs ys (Some a) (Some b) broke =
    record {
      done = broke.done;
      next = broke.next;
      rest = broke.rest ++ ys;
      split = ap (λ zs. zs ++ ys) broke.split ∙ append_assoc broke.done (broke.next ∷ broke.rest) ys;
      fit = broke.fit;
      kept = broke.kept;
    }

-- One of the last.
pub BrokeOff-behind : (xs ys : List Write) (a b c : Option (List ℕ)) → Wrote xs a b → BrokeOff ys b c → BrokeOff (xs ++ ys) a c
BrokeOff-behind xs ys None b c first broke = tt
BrokeOff-behind xs ys (Some a) None c first broke = absurd first
BrokeOff-behind xs ys (Some a) (Some b) None first broke = absurd broke
BrokeOff-behind xs ys (Some a) (Some b) (Some c) first broke =
    let long : length b ≡ length a = ap length first.1 ∙ length-written xs a first.0 in
    record {
      done = xs ++ broke.done;
      next = broke.next;
      rest = broke.rest;
      split = ap (λ zs. xs ++ zs) broke.split ∙ sym (append_assoc xs broke.done (broke.next ∷ broke.rest));
      fit = AllFit-append xs broke.done (length a) first.0 (fit_on broke.done (length b) (length a) long broke.fit);
      kept = subst (λ (m : List ℕ). KeepsOthers (Some m) (Some c) (place_of broke.next)) (ap (written broke.done) first.1 ∙ sym (written-append xs broke.done a)) broke.kept;
    }

-- ---- writes that are apart

-- No two have a byte in common.
abbrev pub AllApart : List Write → Type 0
AllApart [] = ⊤
AllApart (w ∷ ws) = All (λ v. Apart (place_of w) (place_of v)) ws × AllApart ws

abbrev IsApartFrom : SectorPlace → Write → Type 0
IsApartFrom q v = Apart q (place_of v)

kept_by_writes : (q : SectorPlace) (ws : List Write) (content : List ℕ) → AllFit ws (length content) → All (IsApartFrom q) ws
    → take q.size (drop q.offset (written ws content)) ≡ take q.size (drop q.offset content)
kept_by_writes q [] content fit apart = refl
kept_by_writes q (w ∷ ws) content fit apart =
    kept_by_writes q ws (put_at w.offset w.sector content) (fit_behind w ws content fit) (All-tail (IsApartFrom q) w ws apart)
    ∙ apart_same content (put_at w.offset w.sector content) q (place_of w) (put_kept w content fit.0) (All-head (IsApartFrom q) w ws apart)

pub each_stands : (ws : List Write) (content : List ℕ) → AllFit ws (length content) → AllApart ws → All (Stands (written ws content)) ws
each_stands [] content fit apart = All-nil _
each_stands (w ∷ ws) content fit apart =
    let next : List ℕ = put_at w.offset w.sector content in
    let long : length (written ws next) ≡ length content = length-written (w ∷ ws) content fit in
    let within : w.offset + length w.sector ≤ length (written ws next) = subst (λ (n : ℕ). w.offset + length w.sector ≤ n) (sym long) fit.0 in
    All-cons (Stands (written ws next)) w ws
    (within, kept_by_writes (place_of w) ws next (fit_behind w ws content fit) apart.0 ∙ put_stands w content fit.0)
    (each_stands ws next (fit_behind w ws content fit) apart.1)

pub outside_written : (ws : List Write) (content : List ℕ) (at : ℕ) → AllFit ws (length content) → All (IsOutside at) ws
    → get_or (written ws content) at 0 ≡ get_or content at 0
outside_written [] content at fit outside = refl
outside_written (w ∷ ws) content at fit outside =
    outside_written ws (put_at w.offset w.sector content) at (fit_behind w ws content fit) (All-tail (IsOutside at) w ws outside)
    ∙ outside_same content (put_at w.offset w.sector content) (place_of w) at (put_kept w content fit.0) (All-head (IsOutside at) w ws outside)

holds_written : (ws : List Write) (a b : List ℕ) → AllApart ws → AllFit ws (length a) → b ≡ written ws a → Holds ws a b
holds_written ws a b apart fit is =
    record {
      long = ap length is ∙ length-written ws a fit;
      each = subst (λ (c : List ℕ). All (Stands c) ws) (sym is) (each_stands ws a fit apart);
      others = λ at outside. ap (λ c. get_or c at 0) is ∙ outside_written ws a at fit outside;
    }

-- What was written stands.
pub all_written : (ws : List Write) (a b : Option (List ℕ)) → AllApart ws → Wrote ws a b → IsInitialised ws a b
all_written ws None b apart wrote = tt
all_written ws (Some a) None apart wrote = absurd wrote
all_written ws (Some a) (Some b) apart wrote = holds_written ws a b apart wrote.0 wrote.1

-- ---- a front of writes that are apart

pub all_left : {X : Type 0} (P : X → Type 0) (xs ys : List X) → All P (xs ++ ys) → All P xs
all_left P [] ys all = All-nil P
all_left P (x ∷ xs) ys all = All-cons P x xs (All-head P x (xs ++ ys) all) (all_left P xs ys (All-tail P x (xs ++ ys) all))

pub all_right : {X : Type 0} (P : X → Type 0) (xs ys : List X) → All P (xs ++ ys) → All P ys
all_right P [] ys all = all
all_right P (x ∷ xs) ys all = all_right P xs ys (All-tail P x (xs ++ ys) all)

pub front_apart : (done : List Write) (next : Write) (rest : List Write) → AllApart (done ++ next ∷ rest)
    → AllApart done × All (λ w. Apart (place_of w) (place_of next)) done
front_apart [] next rest apart = (tt, All-nil _)
front_apart (w ∷ done) next rest apart =
    let later = front_apart done next rest apart.1 in
    let here : Apart (place_of w) (place_of next) = All-head (IsApartFrom (place_of w)) next rest (all_right (IsApartFrom (place_of w)) done (next ∷ rest) apart.0) in
    ((all_left (IsApartFrom (place_of w)) done (next ∷ rest) apart.0, later.0), All-cons (λ v. Apart (place_of v) (place_of next)) w done here later.1)

stand_still : (ws : List Write) (before after : List ℕ) (p : SectorPlace) → KeepsOthers (Some before) (Some after) p → All (λ w. Apart (place_of w) p) ws
    → All (Stands before) ws → All (Stands after) ws
stand_still [] before after p kept apart stand = All-nil _
stand_still (w ∷ ws) before after p kept apart stand =
    let here = All-head (Stands before) w ws stand in
    All-cons (Stands after) w ws (
      subst (λ (n : ℕ). w.offset + length w.sector ≤ n) (sym kept.0) here.0,
      apart_same before after (place_of w) p kept (All-head (λ v. Apart (place_of v) p) w ws apart) ∙ here.1,
    )
    (stand_still ws before after p kept (All-tail (λ v. Apart (place_of v) p) w ws apart) (All-tail (Stands before) w ws stand))

holds_front : (ws : List Write) (a b : List ℕ) → AllApart ws → WroteFront ws a b → HoldsFront ws a b
holds_front ws a b apart f =
    let sides = front_apart f.done f.next f.rest (subst AllApart f.split apart) in
    record {
      done = f.done;
      next = f.next;
      rest = f.rest;
      split = f.split;
      long = f.kept.0 ∙ length-written f.done a f.fit;
      each = stand_still f.done (written f.done a) b (place_of f.next) f.kept sides.1 (each_stands f.done a f.fit sides.0);
      others = λ at outside.
          outside_same (written f.done a) b (place_of f.next) at f.kept (All-head (IsOutside at) f.next [] (all_right (IsOutside at) f.done (f.next ∷ []) outside))
          ∙ outside_written f.done a at f.fit (all_left (IsOutside at) f.done (f.next ∷ []) outside);
    }

-- What was written before a failure stands.
pub front_written : (ws : List Write) (a b : Option (List ℕ)) → AllApart ws → BrokeOff ws a b → IsBrokenOff ws a b
front_written ws None b apart broke = tt
front_written ws (Some a) None apart broke = absurd broke
front_written ws (Some a) (Some b) apart broke = holds_front ws a b apart broke

-- ---- writes for each number of a range

pub range_wrote : (f : ℕ → Write) (k id : ℕ) (a b c : Option (List ℕ)) → id ≡ 1 + k → Wrote (map f (range_with_len 1 k)) a b → Wrote (f id ∷ []) b c
    → Wrote (map f (range_with_len 1 (k + 1))) a c
range_wrote f k id a b c is first last =
    subst (λ ws. Wrote ws a c) (sym (map-range_with_len_more f 1 k id (sym is))) (Wrote-append (map f (range_with_len 1 k)) (f id ∷ []) a b c first last)

pub range_broke : (f : ℕ → Write) (n k id : ℕ) (a b c : Option (List ℕ)) → k < n → id ≡ 1 + k → Wrote (map f (range_with_len 1 k)) a b → BrokeOff (f id ∷ []) b c
    → BrokeOff (map f (range_with_len 1 n)) a c
range_broke f n k id a b c below is first broke =
    let front : take (k + 1) (map f (range_with_len 1 n)) ≡ map f (range_with_len 1 k) ++ f id ∷ [] =
    take-map-range_with_len f 1 n (k + 1) (omega arith) ∙ map-range_with_len_more f 1 k id (sym is) in
    let rest : List Write = drop (k + 1) (map f (range_with_len 1 n)) in
    let split : (map f (range_with_len 1 k) ++ f id ∷ []) ++ rest ≡ map f (range_with_len 1 n) =
    ap (λ ws. ws ++ rest) (sym front) ∙ take-append-drop (k + 1) (map f (range_with_len 1 n)) in
    subst (λ ws. BrokeOff ws a c) split
    (BrokeOff-front (map f (range_with_len 1 k) ++ f id ∷ []) rest a c (BrokeOff-behind (map f (range_with_len 1 k)) (f id ∷ []) a b c first broke))

-- ---- answers

pub on_err : {T E : Type 0} (r : Result T E) (P : Type 0) → P → OnErr r P
on_err (Ok x) P p = tt
on_err (Err e) P p = p
