pub mod ChildrenLaws
