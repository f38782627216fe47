-- The text of a label is short: so a value can have it.
use Rattle.sl_area.proofs.SizeLaws.{HasRoom, has_room}
use Rattle.sl_label.specs.Labels.{IsLabel, area_words, label_text, time_words}
use Rattle.sl_label.specs.declared.label.Label.{Label}
use Rattle.sl_sector.specs.Records.{IsValue}
use Rattle.sl_text.specs.Forms.{spaced}
use Rattle.sl_text.specs.Names.{is_data, is_name}
use Rattle.sl_words.proofs.CaseLaws.{none_some}
use Rattle.sl_words.proofs.WordLaws.{and_true}
use Rattle.sl_words.specs.Words.{choose}
use Rattle.std.proofs.Common.{List, [], ap, arith, length, length-append, le-leb, subst, sym, true, ℕ, ◌++◌, ◌+◌, ◌/◌, ◌<◌, ◌^◌, ◌∙◌, ◌∷◌, ◌≡◌, ◌≤◌}
use Rattle.std.proofs.lemmas.Bool.Decides.{nat_tests}
use Rattle.std.proofs.lemmas.Fmt.{length-decimal-le}
use Rattle.std.specs.Int.{is_in_range}
use Rattle.std.specs.List.{list_all}
use Rattle.std.specs.Prelude.{Bool, IsTrue, None, Option, codes, decimal, nat_lt}

-- The bytes of words with a space between them, and of one more space.
abbrev lengths : List (List ℕ) → ℕ
lengths [] = 0
lengths (w ∷ ws) = length w + 1 + lengths ws

spaced_length : (ws : List (List ℕ)) → length (spaced ws) ≤ lengths ws
spaced_length [] = omega arith
spaced_length (w ∷ []) = omega arith
spaced_length (w ∷ v ∷ ws) = let rest = spaced_length (v ∷ ws) in let all = length-append w (32 ∷ spaced (v ∷ ws)) in omega (arith, rest, all)

six_digits : (n : ℕ) → n ≤ 600000 → length (decimal n) ≤ 6
six_digits n few = length-decimal-le 6 n (omega arith) (omega (arith, few)) (omega (arith, few))

mebibytes_digits : (n : ℕ) → n < 2 ^ 64 → length (decimal (n / 1048576)) ≤ 14
mebibytes_digits n few = length-decimal-le 14 (n / 1048576) (omega arith) (omega (arith, few)) (omega (arith, few))

in_range_most : (low high n : ℕ) → is_in_range low high n ≡ true → n ≤ high
in_range_most low high n h = grind (arith, nat_tests)

name_short : (n : List ℕ) → is_name n ≡ true → length n ≤ 48
name_short n h = in_range_most 1 48 (length n) (and_true _ _ h).0

time_short : (l : Label) → IsLabel l → length (spaced (time_words l)) ≤ 40
time_short l is =
    let all = spaced_length (time_words l) in
    let io = six_digits l.timing.io is.timing.io.1 in
    let fire = six_digits l.timing.fire is.timing.fire in
    let land = six_digits l.timing.land is.timing.land in
    let few : l.timing.rho ≤ 600000 = let most = is.timing.rho in omega (arith, most) in
    let rho = six_digits l.timing.rho few in
    let grace = six_digits l.grace is.grace in
    omega (arith, all, io, fire, land, rho, grace)

area_short : (l : Label) → IsLabel l → l.geometry.area < 2 ^ 64 → length (spaced (area_words l)) ≤ 110
area_short l is wide =
    let all = spaced_length (area_words l) in
    let room : HasRoom l.geometry = has_room l.geometry is.geometry in
    let hosts : l.geometry.hosts ≤ 600000 = let most = room.hosts.1 in omega (arith, most) in
    let sector : l.geometry.sector ≤ 600000 = let most = room.sector.1 in omega (arith, most) in
    let a = six_digits l.geometry.hosts hosts in
    let b = six_digits l.geometry.sector sector in
    let c = mebibytes_digits l.geometry.area wide in
    let d = name_short l.lockspace is.named in
    omega (arith, all, a, b, c, d)

pub label_short : (l : Label) → IsLabel l → l.geometry.area < 2 ^ 64 → length (label_text l) ≤ 256
label_short l is wide =
    let front = time_short l is in
    let back = area_short l is wide in
    let all = length-append (spaced (time_words l)) (32 ∷ spaced (area_words l)) in
    omega (arith, front, back, all)

pub label_data : (l : Label) → IsLabel l → l.geometry.area < 2 ^ 64 → is_data (label_text l) ≡ true
label_data l is wide = le-leb (length (label_text l)) 256 (label_short l is wide)

-- A value has room for it.
pub data_found : (l : Label) (text : List ℕ) (r : Option (List ℕ)) → IsLabel l → l.geometry.area < 2 ^ 64 → text ≡ label_text l → r ≡ choose (is_data text) text → r ≡ None → ⊥
data_found l text r is wide same exact none =
    let fits : is_data text ≡ true = subst (λ t. is_data t ≡ true) (sym same) (label_data l is wide) in
    none_some text (sym none ∙ exact ∙ ap (λ b. choose b text) fits)

-- A value that has it keeps its rules.
pub value_is : (l : Label) (bytes text : List ℕ) → IsLabel l → l.geometry.area < 2 ^ 64 → bytes ≡ text → text ≡ label_text l → IsTrue (list_all (λ b. nat_lt b 256) text)
    → IsValue (record { host = 0; lver = 0; seq = 0; bytes = bytes })
value_is l bytes text is wide kept same all =
    let short : length bytes ≤ 256 = subst (λ (t : List ℕ). length t ≤ 256) (sym (kept ∙ same)) (label_short l is wide) in
    record {
      host = omega arith;
      lver = omega arith;
      seq = omega arith;
      bytes = (short, subst (λ (t : List ℕ). IsTrue (list_all (λ b. nat_lt b 256) t)) (sym kept) all);
    }
