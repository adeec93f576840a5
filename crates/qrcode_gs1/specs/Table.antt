-- The application identifiers of GS1, and the values that they have (GS1 General Specifications).
use Rattle.std.specs.Prelude.{ℕ, List, [], ◌∷◌}

-- the first and the last identifier; the shortest and the longest length of a value; how many of its first characters
-- must be digits; and how many of these end in a check digit, 0 for none
abbrev pub Rule : Type 0
Rule = (ℕ × ℕ) × (ℕ × ℕ) × ℕ × ℕ

abbrev pub with_check_digit : (first last count : ℕ) → Rule  -- digits, as many as the count, the last of them a check digit
with_check_digit first last count = ((first, last), (count, count), count, count)

abbrev pub digits : (first last least most : ℕ) → Rule  -- digits, from the least to the most
digits first last least most = ((first, last), (least, most), most, 0)

abbrev pub characters : (first last least most : ℕ) → Rule  -- characters, from the least to the most
characters first last least most = ((first, last), (least, most), 0, 0)

-- characters, from the least to the most; the first are digits, of which the first end in a check digit
abbrev pub mixed : (first last least most digits check : ℕ) → Rule
mixed first last least most digits check = ((first, last), (least, most), digits, check)

-- from 3100 to 3699 the last digit of an identifier is the number of decimals, as numbered_rule says
unfoldable pub rules : List Rule
rules =
    with_check_digit 0 0 18 ∷ with_check_digit 1 3 14 ∷ characters 10 10 1 20 ∷ digits 11 13 6 6 ∷
    digits 15 17 6 6 ∷ digits 20 20 2 2 ∷ characters 21 22 1 20 ∷ characters 235 235 1 28 ∷
    characters 240 241 1 30 ∷ digits 242 242 1 6 ∷ characters 243 243 1 20 ∷
    characters 250 251 1 30 ∷ mixed 253 253 13 30 13 13 ∷ characters 254 254 1 20 ∷
    mixed 255 255 13 25 25 13 ∷ digits 30 30 1 8 ∷ digits 37 37 1 8 ∷ digits 3100 3169 6 6 ∷
    digits 3200 3379 6 6 ∷ digits 3400 3579 6 6 ∷ digits 3600 3699 6 6 ∷ digits 3900 3909 1 15 ∷
    digits 3910 3919 4 18 ∷ digits 3920 3929 1 15 ∷ digits 3930 3939 4 18 ∷ digits 3940 3943 4 4 ∷
    digits 3950 3955 6 6 ∷ characters 400 401 1 30 ∷ with_check_digit 402 402 17 ∷
    characters 403 403 1 30 ∷ with_check_digit 410 417 13 ∷ characters 420 420 1 20 ∷
    mixed 421 421 4 12 3 0 ∷ digits 422 422 3 3 ∷ digits 423 423 3 15 ∷ digits 424 424 3 3 ∷
    digits 425 425 3 15 ∷ digits 426 426 3 3 ∷ characters 427 427 1 3 ∷ characters 4300 4301 1 35 ∷
    characters 4302 4306 1 70 ∷ characters 4307 4307 2 2 ∷ characters 4308 4308 1 30 ∷
    digits 4309 4309 20 20 ∷ characters 4310 4311 1 35 ∷ characters 4312 4316 1 70 ∷
    characters 4317 4317 2 2 ∷ characters 4318 4318 1 20 ∷ characters 4319 4319 1 30 ∷
    characters 4320 4320 1 35 ∷ digits 4321 4323 1 1 ∷ digits 4324 4325 10 10 ∷
    digits 4326 4326 6 6 ∷ mixed 4330 4333 6 7 6 0 ∷ digits 7001 7001 13 13 ∷
    characters 7002 7002 1 30 ∷ digits 7003 7003 10 10 ∷ digits 7004 7004 1 4 ∷
    characters 7005 7005 1 12 ∷ digits 7006 7006 6 6 ∷ digits 7007 7007 6 12 ∷
    characters 7008 7008 1 3 ∷ characters 7009 7009 1 10 ∷ characters 7010 7010 1 2 ∷
    digits 7011 7011 6 10 ∷ characters 7020 7022 1 20 ∷ characters 7023 7023 1 30 ∷
    mixed 7030 7039 4 30 3 0 ∷ mixed 7040 7040 4 4 1 0 ∷ characters 7041 7041 1 4 ∷
    characters 710 716 1 20 ∷ characters 7230 7239 3 30 ∷ characters 7240 7240 1 20 ∷
    digits 7241 7241 2 2 ∷ characters 7242 7242 1 25 ∷ digits 7250 7250 8 8 ∷
    digits 7251 7251 12 12 ∷ digits 7252 7252 1 1 ∷ characters 7253 7254 1 40 ∷
    characters 7255 7255 1 10 ∷ characters 7256 7256 1 90 ∷ characters 7257 7257 1 70 ∷
    mixed 7258 7258 3 3 1 0 ∷ characters 7259 7259 1 40 ∷ digits 8001 8001 14 14 ∷
    characters 8002 8002 1 20 ∷ mixed 8003 8003 14 30 14 14 ∷ characters 8004 8004 1 30 ∷
    digits 8005 8005 6 6 ∷ mixed 8006 8006 18 18 18 14 ∷ characters 8007 8007 1 34 ∷
    digits 8008 8008 8 12 ∷ characters 8009 8009 1 50 ∷ digits 8011 8011 1 12 ∷
    characters 8012 8012 1 20 ∷ characters 8013 8014 1 25 ∷ with_check_digit 8017 8018 18 ∷
    digits 8019 8019 1 10 ∷ characters 8020 8020 1 25 ∷ mixed 8026 8026 18 18 18 14 ∷
    characters 8110 8110 1 70 ∷ digits 8111 8111 4 4 ∷ characters 8112 8112 1 70 ∷
    characters 8200 8200 1 70 ∷ characters 90 90 1 30 ∷ characters 91 99 1 90 ∷ []
