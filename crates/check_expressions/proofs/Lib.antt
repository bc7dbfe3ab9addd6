pub mod ExpressionLaws
