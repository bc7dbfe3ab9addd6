-- ECMA-262, 5.1.5 Grammar Notation: the parameters [Yield] and [Await] of the grammar, as each production hands them to its parts. Which functions are generators or async is told (Telling).
use Rattle.std.specs.Prelude.{ℕ, List, Bool, true, false, cond, ◌&&◌, ◌||◌, eqb}
use Rattle.table_records.specs.Table.{kind_of, flags_of, has_flag}
use Rattle.table_records.specs.Kinds as k
use Rattle.table_records.specs.NodeFlag as flag
use Rattle.ecma_trees.specs.Trail.{handed_down}
use Rattle.ecma_base.specs.Telling.{Telling}
use Rattle.ecma_base.specs.Contains.{initializer, static_block}

-- the goal symbol of the syntactic grammar is Module: source type 1, and 2, "a TypeScript module"
abbrev pub goal_module : ℕ → Bool
goal_module source_type = eqb source_type 1 || eqb source_type 2

pub record Parameters : Type 0 where
  pub yield : Bool
  pub await : Bool

-- ScriptBody : StatementList[~Yield, ~Await, ~Return]; ModuleItem : StatementListItem[~Yield, +Await, ~Return]
abbrev pub of_goal : ℕ → Parameters
of_goal source_type = record { yield = false; await = goal_module source_type }

-- what the node i, which has p, hands to its part j
abbrev pub hands_on : Telling → List ℕ → ℕ → ℕ → Parameters → Parameters
hands_on told ns i j p =
    cond (eqb (kind_of ns i) k.Function)
    -- 15.2, 15.5, 15.6, 15.8: the name of a declaration is BindingIdentifier[?Yield, ?Await]
    (cond (has_flag (flags_of ns i) flag.Declaration && eqb (kind_of ns j) k.BindingIdentifier) p
    -- that of an expression, the FormalParameters and the FunctionBody: [+Yield] of a generator, [+Await] of what is async; the same of methods (15.4 to 15.6, 15.8)
    (record { yield = told.generator i; await = told.async i }))
    (cond (eqb (kind_of ns i) k.Arrow)
    -- 15.3, 15.9: ConciseBody, AsyncConciseBody : ExpressionBody and { FunctionBody }, [~Yield], [+Await] if async
    (cond (eqb (kind_of ns j) k.FunctionBody) (record { yield = false; await = told.async i })
    -- ArrowParameters[?Yield, ?Await]; CoverCallExpressionAndAsyncArrowHead[?Yield, ?Await] that covers async ArrowFormalParameters[~Yield, +Await]: an error by either is one
    (record { yield = p.yield; await = p.await || told.async i }))
    -- 15.7, ClassStaticBlockStatementList : StatementList[~Yield, +Await, ~Return]
    (cond (static_block ns i) (record { yield = false; await = true })
    -- FieldDefinition[Yield, Await] : ClassElementName[?Yield, ?Await] Initializer[+In, ~Yield, ~Await]
    (cond (initializer ns i j) (record { yield = false; await = false })
    -- every other production hands on its own: [?Yield, ?Await]
    p)))

abbrev pub parameters_of : Telling → ℕ → List ℕ → ℕ → Parameters
parameters_of told source_type ns n = handed_down ns (hands_on told ns) (of_goal source_type) n

-- the production that the node n is has a [Yield] parameter, an [Await] parameter
abbrev pub yield_parameter : Telling → ℕ → List ℕ → ℕ → Bool
yield_parameter told source_type ns n = (parameters_of told source_type ns n).yield

abbrev pub await_parameter : Telling → ℕ → List ℕ → ℕ → Bool
await_parameter told source_type ns n = (parameters_of told source_type ns n).await
