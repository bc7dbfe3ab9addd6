-- The statements of a unit, as a tree. A number that a statement begins with is its node, or its label's name.
use Rattle.std.specs.Prelude.{ℕ, Bool}

-- The label of a break or a continue: none, or a name.
pub data Lab : Type 0 where
  near : Lab
  named : ℕ → Lab

-- A statement without parts: an expression or a declaration, break, continue, return, throw.
pub data Leaf : Type 0 where
  simple : Leaf
  brk : Lab → Leaf
  con : Lab → Leaf
  ret : Leaf
  thr : Leaf

mutual
  pub data Stmt : Type 0 where
    leaf : ℕ → Leaf → Stmt
    -- An If without an alternate; with one; and with one that stands before the held statement in node order:
    -- if2 n s t and if3 n t s are both `if (n) s else t`.
    if1 : ℕ → Stmt → Stmt
    if2 : ℕ → Stmt → Stmt → Stmt
    if3 : ℕ → Stmt → Stmt → Stmt
    withs : ℕ → Stmt → Stmt
    block : Stmts → Stmt
    -- The label's name, and the statement that has it.
    label : ℕ → Stmt → Stmt
    -- loop n before test s: `before` says that an answer is taken before the body (all but DoWhile), `test` that the answer is heeded
    -- (all but a `for` without a test).
    loop : ℕ → Bool → Bool → Stmt → Stmt
    switch : ℕ → Cases → Stmt
    -- A try with a catch, and a try with a finally. One with both is try_f (try_c b h) f.
    try_c : Stmt → Stmt → Stmt
    try_f : Stmt → Stmt → Stmt

  pub data Stmts : Type 0 where
    nil : Stmts
    cons : Stmt → Stmts → Stmts

  -- The cases of a switch; true marks `default`.
  pub data Cases : Type 0 where
    none : Cases
    case : Bool → Stmts → Cases → Cases

-- The tree has no try.
abbrev mutual
  pub NoTry : Stmt → Type 0
  NoTry (leaf n l) = Unit {0}
  NoTry (if1 n s) = NoTry s
  NoTry (if2 n s t) = NoTry s × NoTry t
  NoTry (if3 n t s) = NoTry t × NoTry s
  NoTry (withs n s) = NoTry s
  NoTry (block ss) = NoTryAll ss
  NoTry (label l s) = NoTry s
  NoTry (loop n before test s) = NoTry s
  NoTry (switch n cs) = NoTryCases cs
  NoTry (try_c b h) = ⊥
  NoTry (try_f b f) = ⊥

  pub NoTryAll : Stmts → Type 0
  NoTryAll nil = Unit {0}
  NoTryAll (cons s ss) = NoTry s × NoTryAll ss

  pub NoTryCases : Cases → Type 0
  NoTryCases none = Unit {0}
  NoTryCases (case d ss cs) = NoTryAll ss × NoTryCases cs
