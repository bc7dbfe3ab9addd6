-- The index of class elements: each element is in a bucket that its class and its key give, and each bucket is a chain from its last element to its first.
use Rattle.std.specs.Prelude.{ℕ, zero, suc, ◌+◌, ◌*◌, ◌-◌, ◌%◌, min, ◌≤◌, ◌<◌, ◌≡◌, List, Bool, true, cond, ◌&&◌, eqb, leb, length, take, drop, get_or, Option, Some, None}
use Rattle.std.specs.Int.Bits.{bit_and}
use Rattle.std.specs.List.{fold}
use Rattle.table_records.specs.Table.{count, parent_of}
use Rattle.table_records.specs.declared.NodeId.{NodeId}
use Rattle.table_names.specs.Name.{same}
use Rattle.table_children.specs.Children.{key_of, below}
use Rattle.check_class_table.specs.Elements.{element_name, is_private, is_keyed, is_definition, enters}
use Rattle.check_element_index.specs.declared.Entry.{Entry}

-- arithmetic of 32 bits
abbrev wrap : ℕ → ℕ
wrap n = n % 4294967296

-- one byte more
abbrev pub hash_step : ℕ → ℕ → ℕ
hash_step h byte = wrap (wrap (h * 33) + byte)

-- what is hashed so far, and with it some bytes
abbrev pub hash_on : ℕ → List ℕ → ℕ
hash_on hashed bytes = fold hash_step hashed bytes

-- how many bytes of a long name are hashed at its front, and at its end
abbrev pub name_ends : ℕ
name_ends = 32

-- the length of a name, as a number of 32 bits
abbrev pub short_length : List ℕ → ℕ
short_length name = min (length name) 4294967295

-- the hash of a name, by its length and its bytes, of a long name those at its ends: nothing rests on it but that it depends on the bytes alone
unfoldable pub hash : List ℕ → ℕ
hash name = cond (leb (length name) (name_ends + name_ends)) (hash_on (short_length name) name) (hash_on (hash_on (short_length name) (take name_ends name)) (drop (length name - name_ends) name))

abbrev pub seed : Bool → ℕ
seed private = cond private 40503 30011

-- the bucket of a key in class c, of `size` buckets
unfoldable pub bucket : ℕ → ℕ → Bool → ℕ → ℕ
bucket size c private h = bit_and (wrap (h + wrap (c * seed private))) (size - 1)

-- the bucket of element e: by its class, by whether it is private, and by its name
unfoldable pub bucket_of : List ℕ → List ℕ → ℕ → ℕ → ℕ
bucket_of ns names size e = bucket size (parent_of ns e) (is_private ns e) (hash (element_name ns names e))

-- node e is an element of a class: of `elements`
abbrev pub is_element : ℕ → List ℕ → ℕ → Bool
is_element source_type ns e = is_definition ns e && enters source_type ns e

-- .. in bucket b
unfoldable pub in_bucket : ℕ → List ℕ → List ℕ → ℕ → ℕ → ℕ → Bool
in_bucket source_type ns names size b e = is_element source_type ns e && eqb (bucket_of ns names size e) b

-- the last number below n that passes a test, plus one; 0 where none does
unfoldable pub last_below : (ℕ → Bool) → ℕ → ℕ
last_below p zero = 0
last_below p (suc n) = cond (p n) (suc n) (last_below p n)

-- the node of a key plus one; 0 where there is none
abbrev pub key_number : Option NodeId → ℕ
key_number (Some m) = m.0 + 1
key_number None = 0

-- what is kept of element e; of nothing past the end
abbrev pub entry_in : List Entry → ℕ → Entry
entry_in entries e = get_or entries e (record { earlier = 0; key = 0 })

-- The nodes below n are entered in `size` buckets: each bucket has its last element, and each element the one before it in its bucket, and its key.
pub record Entered (source_type : ℕ) (ns names : List ℕ) (size : ℕ) (last : List ℕ) (entries : List Entry) (n : ℕ) : Type 0 where
  pub some : 0 < size
  pub sized : length last ≡ size
  pub room : count ns ≤ length entries
  pub is_last : (b : ℕ) → b < size → get_or last b 0 ≡ last_below (in_bucket source_type ns names size b) n
  pub is_earlier : (e : ℕ) → e < n → is_element source_type ns e ≡ true → (entry_in entries e).earlier ≡ last_below (in_bucket source_type ns names size (bucket_of ns names size e)) e
  pub is_key : (e : ℕ) → e < n → is_element source_type ns e ≡ true → (entry_in entries e).key ≡ key_number (key_of ns e)
  pub key_below : (e : ℕ) → e < n → is_element source_type ns e ≡ true → below ns (key_of ns e)

-- all nodes are
abbrev pub Indexed : ℕ → List ℕ → List ℕ → List ℕ → List Entry → Type 0
Indexed source_type ns names last entries = Entered source_type ns names (length last) last entries (count ns)

-- what a clause sees of `Elements`
pub record Buckets : Type 0 where
  pub source_type : ℕ
  pub nodes : List ℕ
  pub names : List ℕ
  pub last : List ℕ
  pub entries : List Entry

-- the invariant of `Elements`
pub record Known (s : Buckets) : Type 0 where
  pub indexed : Indexed s.source_type s.nodes s.names s.last s.entries

-- element e has this key in class c: as `is_named`, but that e is an element is known
unfoldable pub has_key : List ℕ → List ℕ → ℕ → Bool → List ℕ → ℕ → Bool
has_key ns names c private name e = eqb (parent_of ns e) c && (is_keyed ns private e && same (element_name ns names e) name)
