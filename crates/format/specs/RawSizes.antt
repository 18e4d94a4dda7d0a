-- What each fixed code holds, as 003 describes it, against the sizes of the table: a second reading of 003, which gives a description
-- beside each full size. Where a description names no length (a key or a signature by its scheme's name) it is the scheme's; an X25519
-- sealed box is 48 bytes longer than what is in it. Assumes nothing.
use Rattle.std.specs.Prelude.{ℕ, ◌+◌, ◌-◌, ◌%◌, ◌≡◌, refl, List, [], ◌∷◌, map, Bool, true, false, eqb}
use Rattle.base.specs.Pick.{pick}
use Rattle.format.specs.declared.CodeRow.{CodeRow}
use Rattle.format.specs.declared.IndexRow.{IndexRow}
use Rattle.format.specs.declared.Kind.TheVariants.{Variable, Group}
use Rattle.format.specs.declared.Opening.TheVariants.{Short, LargeVariable, LargeGroup}
use Rattle.format.specs.Registry.{codes, is_type, is_group, opening, extent, indexed_codes, index_chars, index_head}
use Rattle.format.specs.Framing.{digits4}
use Rattle.format.specs.Values.{raw_start}
use Rattle.format.specs.Writing.{raw_size}
use Rattle.format.specs.Indexed.{indexed_raw_size}

-- ---- raw bytes and tag characters

pub record Holding : Type 0 where
  pub chars : ℕ  -- the code's characters
  pub letter : ℕ  -- its last one's sextet
  pub raw : ℕ  -- raw bytes
  pub tags : ℕ  -- tag characters

abbrev raw : ℕ → ℕ → ℕ → Holding
raw chars letter bytes = record { chars = chars; letter = letter; raw = bytes; tags = 0 }

abbrev tag : ℕ → ℕ → ℕ → Holding
tag chars letter characters = record { chars = chars; letter = letter; raw = 0; tags = characters }

abbrev holding : CodeRow → Holding
holding c = record { chars = c.chars; letter = c.letter; raw = raw_size c; tags = c.tag }

pub held : map holding codes ≡
    raw 1 0 32  -- A: Seed of Ed25519 private key
    ∷ raw 1 1 32  -- B: Ed25519 non-transferable prefix public verkey
    ∷ raw 1 2 32  -- C: X25519 public encryption key
    ∷ raw 1 3 32  -- D: Ed25519 public verkey
    ∷ raw 1 4 32  -- E: Blake3-256 Digest
    ∷ raw 1 5 32  -- F: Blake2b-256 Digest
    ∷ raw 1 6 32  -- G: Blake2s-256 Digest
    ∷ raw 1 7 32  -- H: SHA3-256 Digest
    ∷ raw 1 8 32  -- I: SHA2-256 Digest
    ∷ raw 1 9 32  -- J: ECDSA secp256k1 private key seed
    ∷ raw 1 10 56  -- K: Ed448 private key seed (its scheme's seeds have 57 bytes; 003's 76 characters hold 56)
    ∷ raw 1 11 56  -- L: X448 public encryption key
    ∷ raw 1 12 2  -- M: Short number 2-byte b2
    ∷ raw 1 13 8  -- N: Big number 8-byte b2
    ∷ raw 1 14 32  -- O: X25519 private decryption key/seed
    ∷ raw 1 15 92  -- P: X25519 Cipher of qb64 Seed: 44 characters
    ∷ raw 1 16 32  -- Q: ECDSA secp256r1 256-bit random Seed
    ∷ raw 1 17 5  -- R: Tall 5-byte b2 number
    ∷ raw 1 18 11  -- S: Large 11-byte b2 number
    ∷ raw 1 19 14  -- T: Great 14-byte b2 number
    ∷ raw 1 20 17  -- U: Vast 17-byte b2 number
    ∷ raw 1 21 1  -- V: Label1 (1 byte, lead size 1)
    ∷ raw 1 22 2  -- W: Label2 (2 bytes, lead size 0)
    ∷ tag 1 23 3  -- X: Tag3
    ∷ tag 1 24 7  -- Y: Tag7
    ∷ tag 1 25 11  -- Z: Tag11
    ∷ raw 1 26 32  -- a: Blinding factor 256 bits
    ∷ raw 2 0 16  -- 0A: Random salt/seed/nonce/private key/sn, 128 bits
    ∷ raw 2 1 64  -- 0B: Ed25519 signature
    ∷ raw 2 2 64  -- 0C: ECDSA secp256k1 signature
    ∷ raw 2 3 64  -- 0D: Blake3-512 Digest
    ∷ raw 2 4 64  -- 0E: Blake2b-512 Digest
    ∷ raw 2 5 64  -- 0F: SHA3-512 Digest
    ∷ raw 2 6 64  -- 0G: SHA2-512 Digest
    ∷ raw 2 7 4  -- 0H: Long number 4-byte b2
    ∷ raw 2 8 64  -- 0I: ECDSA secp256r1 signature
    ∷ tag 2 9 1  -- 0J: Tag1
    ∷ tag 2 10 2  -- 0K: Tag2
    ∷ tag 2 11 5  -- 0L: Tag5
    ∷ tag 2 12 6  -- 0M: Tag6
    ∷ tag 2 13 9  -- 0N: Tag9
    ∷ tag 2 14 10  -- 0O: Tag10
    ∷ raw 4 0 33  -- 1AAA: ECDSA secp256k1 non-transferable prefix verkey
    ∷ raw 4 1 33  -- 1AAB: ECDSA secp256k1 verkey/enckey
    ∷ raw 4 2 57  -- 1AAC: Ed448 non-transferable prefix verkey
    ∷ raw 4 3 57  -- 1AAD: Ed448 public verkey
    ∷ raw 4 4 114  -- 1AAE: Ed448 signature
    ∷ tag 4 5 4  -- 1AAF: Tag4
    ∷ raw 4 6 24  -- 1AAG: DateTime B64 encoded 32-char ISO-8601: 32 characters are 24 bytes
    ∷ raw 4 7 72  -- 1AAH: X25519 Cipher of qb64 Salt: 24 characters
    ∷ raw 4 8 33  -- 1AAI: ECDSA secp256r1 non-transferable verkey
    ∷ raw 4 9 33  -- 1AAJ: ECDSA secp256r1 verkey/enckey
    ∷ raw 4 10 0  -- 1AAK: Null
    ∷ raw 4 11 0  -- 1AAL: No
    ∷ raw 4 12 0  -- 1AAM: Yes
    ∷ tag 4 13 8  -- 1AAN: Tag8
    ∷ raw 4 14 0  -- 1AAO: Escape code for map field values
    ∷ raw 4 15 0  -- 1AAP: Empty value
    ∷ []
unfolding codes raw_size raw_start
held = refl

-- ---- the same of the Indexed Code Table: 003's "Code Len", "Index" and "Ondex", and the signature's bytes by its scheme's name

pub record IndexHolding : Type 0 where
  pub selector : ℕ  -- its sextet, 0 where the letter stands alone
  pub letter : ℕ
  pub length : ℕ  -- the characters of code, index and ondex
  pub index : ℕ
  pub ondex : ℕ
  pub raw : ℕ

abbrev index_holds : ℕ → ℕ → ℕ → ℕ → ℕ → ℕ → IndexHolding
index_holds selector letter chars index ondex bytes =
    record { selector = selector; letter = letter; length = chars; index = index; ondex = ondex; raw = bytes }

abbrev index_holding : IndexRow → IndexHolding
index_holding c =
    record { selector = c.selector; letter = c.letter; length = index_chars c; index = c.index; ondex = c.ondex; raw = indexed_raw_size c }

pub index-held : map index_holding indexed_codes ≡
    index_holds 0 0 2 1 0 64  -- A#: Ed25519 indexed sig, both same
    ∷ index_holds 0 1 2 1 0 64  -- B#: Ed25519 indexed sig, current only
    ∷ index_holds 0 2 2 1 0 64  -- C#: ECDSA secp256k1 indexed sig, both same
    ∷ index_holds 0 3 2 1 0 64  -- D#: ECDSA secp256k1 indexed sig, current only
    ∷ index_holds 52 0 4 1 1 114  -- 0A##: Ed448 indexed sig, dual
    ∷ index_holds 52 1 4 1 1 114  -- 0B##: Ed448 indexed sig, current only
    ∷ index_holds 54 0 6 2 2 64  -- 2A####: Ed25519 indexed sig, big dual
    ∷ index_holds 54 1 6 2 2 64  -- 2B####: Ed25519 indexed sig, big current only
    ∷ index_holds 54 2 6 2 2 64  -- 2C####: ECDSA secp256k1 indexed sig, big dual
    ∷ index_holds 54 3 6 2 2 64  -- 2D####: ECDSA secp256k1 indexed sig, big current only
    ∷ index_holds 55 0 8 3 3 114  -- 3A######: Ed448 indexed sig, big dual
    ∷ index_holds 55 1 8 3 3 114  -- 3B######: Ed448 indexed sig, big current only
    ∷ []
unfolding indexed_codes indexed_raw_size raw_start index_head
index-held = refl

-- ---- 003, "Pad Size Calculation": `pad_size = (3 - (raw_size % 3)) % 3`, lead bytes counted in, of every code that holds raw bytes; "pad_size
-- 1 -> 1-char code, pad_size 2 -> 2-char code, pad_size 0 -> 4-char code"

abbrev padded : CodeRow → Bool
padded c =
    pick (eqb c.tag 0) (eqb ((3 - (c.lead + raw_size c) % 3) % 3) c.pad) true

abbrev chars_by : CodeRow → Bool
chars_by c = eqb c.chars (pick (eqb c.pad 0) 4 c.pad)

abbrev all : (CodeRow → Bool) → List CodeRow → Bool
all p [] = true
all p (c ∷ cs) = pick (p c) (all p cs) false

pub pads : (all padded codes ≡ true) × (all chars_by codes ≡ true)
unfolding codes raw_size raw_start
pads = (refl, refl)

-- ---- 003, "Count Codes" and "Variable Raw Size Codes": "Small: .. max 4,095; Large: .. max 1,073,741,823"; "Small max: 4,095 Quadlets. Big
-- max: 16,777,215 Quadlets". The largest sextet in every digit

abbrev largest : ℕ → ℕ
largest i = 63

pub counts : (opening 62 0 63 63 ≡ Short (Group 0) (1 + 4095)) × (extent (LargeGroup 0 63) (digits4 largest) ≡ 2 + 1073741823)
    × (opening 56 1 63 63 ≡ Short (Variable 1 0 4095) (1 + 4095)) × (extent (LargeVariable 1 0) (digits4 largest) ≡ 2 + 16777215)
unfolding opening is_type is_group extent
counts = (refl, refl, refl, refl)
